-- How many of a list pass a test, and the least of numbers.
use Rattle.std.specs.Prelude.{ℕ, ◌+◌, Bool, cond, List, [], ◌∷◌, min}

-- how many of a list pass a test
abbrev pub count_where : {X : Type 0} → (X → Bool) → List X → ℕ
count_where test [] = 0
count_where test (x ∷ xs) = cond (test x) (count_where test xs + 1) (count_where test xs)

-- the least of a number and a list of numbers
abbrev pub least : ℕ → List ℕ → ℕ
least number [] = number
least number (n ∷ ns) = min n (least number ns)
