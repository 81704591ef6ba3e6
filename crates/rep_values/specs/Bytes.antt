-- Kinds of bytes.
use Rattle.std.specs.Prelude.{ℕ, Bool, ◌&&◌, ◌||◌, nat_le}

-- from lo to hi, both included
abbrev pub is_within : ℕ → ℕ → ℕ → Bool
is_within lo hi byte = nat_le lo byte && nat_le byte hi

-- A to Z or a to z
abbrev pub is_letter : ℕ → Bool
is_letter byte = is_within 65 90 byte || is_within 97 122 byte

-- 0 to 9
abbrev pub is_digit : ℕ → Bool
is_digit = is_within 48 57

-- a printable byte of ASCII, the space included
abbrev pub is_printable : ℕ → Bool
is_printable = is_within 32 126
