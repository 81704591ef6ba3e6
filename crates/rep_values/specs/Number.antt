-- How many values a key and a row have.
use Rattle.std.specs.Prelude.{ℕ, ◌≤◌}

-- a key has 1 to 4 values
abbrev pub IsKeyLen : ℕ → Type 0
IsKeyLen len = (1 ≤ len) × (len ≤ 4)

-- a row has 1 to 32 values
abbrev pub IsRowLen : ℕ → Type 0
IsRowLen len = (1 ≤ len) × (len ≤ 32)
