-- The words of a text, and the numbers that they are.
use Rattle.std.specs.Prelude.{ℕ, zero, suc, ◌+◌, ◌-◌, ◌*◌, ◌^◌, min, Bool, ◌||◌, ◌==◌, List, fold}
use Rattle.std.specs.List.{before_first, after_first}

-- a space, or the end of a line
abbrev pub ends_word : ℕ → Bool
ends_word byte = byte == 32 || byte == 10

-- the word at a place of a text, from 0
abbrev pub word_at : ℕ → List ℕ → List ℕ
word_at zero text = before_first ends_word text
word_at (suc place) text = word_at place (after_first ends_word text)

-- the last number of 64 bits
abbrev pub last_number : ℕ
last_number = 2 ^ 64 - 1

-- one more digit behind a number, which stays the last one from there on
abbrev pub with_digit : ℕ → ℕ → ℕ
with_digit n byte = min (n * 10 + (byte - 48)) last_number

-- the number of 64 bits that digits are
abbrev pub digits_number : List ℕ → ℕ
digits_number digits = fold with_digit 0 digits
