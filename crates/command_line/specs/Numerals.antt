-- The numbers that words write.
use Rattle.std.specs.Prelude.{ℕ, Bool, cond, ◌&&◌, nat_lt, nat_le, List, Option, Some, None, length}
use Rattle.std.specs.List.{list_all}
use Rattle.std.specs.Str.Parse.{digits_value}
use Rattle.rep_values.specs.Bytes.{is_digit}

-- decimal digits alone, and one at least
abbrev pub is_numeral : List ℕ → Bool
is_numeral word = nat_lt 0 (length word) && list_all is_digit word

-- the number that a word writes in decimal digits alone, where it is in a range
abbrev pub number_within : ℕ → ℕ → List ℕ → Option ℕ
number_within least most word = cond (is_numeral word && nat_le least (digits_value 10 word) && nat_le (digits_value 10 word) most) (Some (digits_value 10 word)) None
