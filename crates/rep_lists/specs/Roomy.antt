-- What contracts see of a list with room.
use Rattle.std.specs.Prelude.{ℕ, List}

-- the values, and how many more can be added without memory
pub record Roomy (X : Type 0) : Type 0 where
  pub items : List X
  pub spare : ℕ
