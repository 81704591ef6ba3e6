-- The stamps that a site gives.
use Rattle.std.specs.Prelude.{ℕ, ◌+◌, max, min}

-- the greatest of a clock, the last stamp plus 1, and a bound
abbrev pub stamp_above : ℕ → ℕ → ℕ → ℕ
stamp_above clock last bound = max clock (max (last + 1) bound)

-- the least number above those that a column may hold
abbrev pub first_outside : ℕ
first_outside = 1000000000000001

-- a stamp, or else a number that no column may hold
abbrev pub capped : ℕ → ℕ
capped stamp = min stamp first_outside
