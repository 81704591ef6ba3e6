-- The turns of a tally.
use Rattle.std.specs.Prelude.{ℕ, List, ◌++◌, replicate}

-- the numbers that were added, and a zero for each turn after them
abbrev pub turns_of : List ℕ → ℕ → List ℕ
turns_of added idle = added ++ replicate idle 0
