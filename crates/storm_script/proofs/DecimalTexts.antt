-- The names that rounds set are texts.
use Rattle.std.proofs.Common.{◌≡◌, ℕ, zero, suc, ◌+◌, ◌<◌, ◌≤◌, ◌^◌, Bool, true, List, [], ◌∷◌, length, map, refl, arith}
use Rattle.std.specs.Prelude.{◌&&◌, nat_le, decimal}
use Rattle.std.specs.List.{AllByRecursion, list_all}
use Rattle.std.proofs.lemmas.Bool.Decides.{nat_tests}
use Rattle.std.proofs.lemmas.Fmt.{decimal-digits_of, decimal_digit, length-decimal-le}
use Rattle.std.proofs.lemmas.Int.Digits.{all_below_base_digits_of}
use Rattle.std.specs.Int.Digits.{digits_of}
use Rattle.rep_values.specs.Text.{is_text, is_text_byte}
use Rattle.storm_script.specs.Rounds.{name_of}

together : (a b : Bool) → a ≡ true → b ≡ true → (a && b) ≡ true
together a b first second = rw first second

digit_byte : (d : ℕ) → d < 10 → is_text_byte (48 + d) ≡ true
digit_byte d below = grind (arith, nat_tests)

digit_bytes : (ds : List ℕ) → AllByRecursion (λ d. d < 10) ds → list_all is_text_byte (map (λ d. 48 + d) ds) ≡ true
digit_bytes [] below = refl
digit_bytes (d ∷ ds) below =
    together (is_text_byte (48 + d)) (list_all is_text_byte (map (λ d. 48 + d) ds)) (digit_byte d below.0) (digit_bytes ds below.1)

decimal_bytes : (n : ℕ) → n < 2 ^ 64 → list_all is_text_byte (decimal n) ≡ true
decimal_bytes zero fits = rw (decimal_digit 0 (omega arith)) refl
decimal_bytes (suc n) fits = rw (decimal-digits_of (suc n) (omega arith) fits) (digit_bytes (digits_of 10 (suc n)) (all_below_base_digits_of 10 (suc n) (omega arith)))

-- the name of a round is one
pub name_of_text : (n : ℕ) → n < 2 ^ 64 → is_text (name_of n) ≡ true
name_of_text n fits =
    let short : length (decimal n) ≤ 20 = length-decimal-le 20 n (omega arith) (omega arith) fits in
    together (nat_le (length (name_of n)) 64) (list_all is_text_byte (name_of n)) (within (length (decimal n)) short) (decimal_bytes n fits)
  where
    within : (k : ℕ) → k ≤ 20 → nat_le (suc k) 64 ≡ true
    within k short = grind (arith, nat_tests)
