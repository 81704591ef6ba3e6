-- Words that are numerals, and the number that is read of them.
use Rattle.std.proofs.Common.{rules, ◌≡◌, ◌<◌, true, false, Bool, ℕ, length, List, nat_lt, nat_le, refl, arith}
use Rattle.std.specs.Prelude.{◌&&◌, ◌^◌, cond, Some, None, Result, Err}
use Rattle.std.specs.List.{list_all}
use Rattle.std.specs.Result.{OkIff}
use Rattle.std.specs.Str.Parse.{ParsesUnsigned, digits_value}
use Rattle.std.proofs.lemmas.Bool.{ltb-true, leb-true}
use Rattle.std.proofs.lemmas.Str.Parse.{IsNumeralModel, numerals_by_value, parse_digits}
use Rattle.rep_values.specs.Bytes.{is_digit}
use Rattle.command_line.specs.Numerals.{is_numeral, number_within}

digits : IsNumeralModel (λ word. list_all is_digit word ≡ true) (digits_value 10)
digits = numerals_by_value _ (search rules)

-- both are true where the two together are
pub both_true : (b c : Bool) → (b && c) ≡ true → (b ≡ true) × (c ≡ true)
both_true true c is = (refl, is)
both_true false c is = absurd (cc is)

-- a numeral is read where it fits
pub read_numeral : {E : Type 0} (word : List ℕ) (r : Result ℕ E) → ParsesUnsigned 64 10 word r → is_numeral word ≡ true
    → OkIff r ((0 < length word) × (digits_value 10 word < 2 ^ 64)) (digits_value 10 word)
read_numeral word r parses is = parse_digits digits 64 word r parses (both_true (nat_lt 0 (length word)) (list_all is_digit word) is).1

too_big : (value most : ℕ) → most < 2 ^ 64 → ¬ (value < 2 ^ 64) → nat_le value most ≡ false
too_big value most below not_below = go (nat_le value most) refl
  where
    go : (b : Bool) → nat_le value most ≡ b → b ≡ false
    go true is = absurd (not_below (omega (arith, below, leb-true value most is)))
    go false is = refl

module _ (word : List ℕ) (is : is_numeral word ≡ true) where
  -- a numeral that isn't read is too big
  pub unread : {E : Type 0} (e : E) (least most : ℕ) → most < 2 ^ 64 → ParsesUnsigned {E = E} 64 10 word (Err e) → None ≡ number_within least most word
  unread e least most below parses = rw (is, too_big (digits_value 10 word) most below (λ value. read_numeral word (Err e) parses is (filled, value))) (none (nat_le least (digits_value 10 word)))
    where
      filled : 0 < length word
      filled = ltb-true 0 (length word) (both_true (nat_lt 0 (length word)) (list_all is_digit word) is).0

      none : (b : Bool) → None ≡ cond (true && b && false) (Some (digits_value 10 word)) None
      none true = refl
      none false = refl
