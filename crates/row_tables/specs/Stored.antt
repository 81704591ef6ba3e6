-- What contracts see of a store whose tables are sorted vectors.
use Rattle.std.specs.Prelude.{ℕ, List, map}
use Rattle.rep_schema.specs.Tables.{Rows}

-- the rows of one table, and how many more there is room for
pub record StoredTable : Type 0 where
  pub rows : Rows
  pub spare : ℕ

-- the rows of each table
abbrev pub rows_in : List StoredTable → List Rows
rows_in stored = map (λ t. t.rows) stored

-- the room in each table
abbrev pub spare_in : List StoredTable → List ℕ
spare_in stored = map (λ t. t.spare) stored
