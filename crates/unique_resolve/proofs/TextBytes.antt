-- The bytes of names and of decimals are bytes of texts.
use Rattle.std.proofs.Common.{◌≡◌, ℕ, zero, suc, ◌+◌, ◌<◌, ◌^◌, Bool, true, false, List, [], ◌∷◌, length, map, refl, arith}
use Rattle.std.specs.Prelude.{◌&&◌, nat_le, decimal}
use Rattle.std.specs.List.{AllByRecursion, list_all}
use Rattle.std.proofs.lemmas.Bool.Decides.{nat_tests}
use Rattle.std.proofs.lemmas.Fmt.{decimal-digits_of, decimal_digit}
use Rattle.std.proofs.lemmas.Int.Digits.{all_below_base_digits_of}
use Rattle.std.specs.Int.Digits.{digits_of}
use Rattle.rep_values.specs.Bytes.{is_letter}
use Rattle.rep_values.specs.Text.{is_text_byte}
use Rattle.rep_values.specs.Name.{is_name_byte, is_name}

both : (a b : Bool) → (a && b) ≡ true → (a ≡ true) × (b ≡ true)
both true b e = (refl, e)
both false b e = cc

together : (a b : Bool) → a ≡ true → b ≡ true → (a && b) ≡ true
together a b first second = rw first second

text_from_name : (b : ℕ) → is_name_byte b ≡ true → is_text_byte b ≡ true
text_from_name b is = grind (arith, nat_tests)

text_from_names : (bs : List ℕ) → list_all is_name_byte bs ≡ true → list_all is_text_byte bs ≡ true
text_from_names [] all = refl
text_from_names (b ∷ bs) all =
    let each = both (is_name_byte b) (list_all is_name_byte bs) all in
    together (is_text_byte b) (list_all is_text_byte bs) (text_from_name b each.0) (text_from_names bs each.1)

-- a name's bytes are
pub name_bytes : (bs : List ℕ) → is_name bs ≡ true → list_all is_text_byte bs ≡ true
name_bytes [] is = refl
name_bytes (b ∷ bs) is = text_from_names (b ∷ bs) (both (nat_le (length (b ∷ bs)) 30 && is_letter b) (list_all is_name_byte (b ∷ bs)) is).1

text_from_digit : (d : ℕ) → d < 10 → is_text_byte (48 + d) ≡ true
text_from_digit d below = grind (arith, nat_tests)

text_from_digits : (ds : List ℕ) → AllByRecursion (λ d. d < 10) ds → list_all is_text_byte (map (λ d. 48 + d) ds) ≡ true
text_from_digits [] below = refl
text_from_digits (d ∷ ds) below =
    together (is_text_byte (48 + d)) (list_all is_text_byte (map (λ d. 48 + d) ds)) (text_from_digit d below.0) (text_from_digits ds below.1)

-- a decimal's bytes are
pub decimal_bytes : (n : ℕ) → n < 2 ^ 64 → list_all is_text_byte (decimal n) ≡ true
decimal_bytes zero fits = rw (decimal_digit 0 (omega arith))
decimal_bytes (suc n) fits = rw (decimal-digits_of (suc n) (omega arith) fits) (text_from_digits (digits_of 10 (suc n)) (all_below_base_digits_of 10 (suc n) (omega arith)))
