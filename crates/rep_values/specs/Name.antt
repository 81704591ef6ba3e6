-- Names: the bytes that one may have, and how many.
use Rattle.std.specs.Prelude.{ℕ, Bool, false, nat_eq, ◌&&◌, ◌||◌, ◌==◌, nat_le, List, [], ◌∷◌, length}
use Rattle.std.specs.List.{list_all}
use Rattle.std.specs.Cmp.Lexicographic.{pointwise}
use Rattle.rep_values.specs.Bytes.{is_letter, is_digit}

-- a letter, a digit or an underscore
abbrev pub is_name_byte : ℕ → Bool
is_name_byte byte = is_letter byte || is_digit byte || byte == 95

-- a letter, and then such bytes, at most 30 in all
abbrev pub is_name : List ℕ → Bool
is_name [] = false
is_name (b ∷ bs) = nat_le (length (b ∷ bs)) 30 && is_letter b && list_all is_name_byte (b ∷ bs)

-- byte for byte the same
abbrev pub same_bytes : List ℕ → List ℕ → Bool
same_bytes = pointwise nat_eq
