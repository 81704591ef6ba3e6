-- What a statement may put into a table.
use Rattle.std.specs.Prelude.{◌≡◌, ℕ, ◌<◌, true, List, length}
use Rattle.rep_schema.specs.declared.schema.Schema.{Schema}
use Rattle.rep_schema.specs.Shape.{HasShape}
use Rattle.rep_schema.specs.Tables.{Cells, Rows, columns_of, RowFits, IsKeyed, AreTables}
use Rattle.rep_schema.specs.Kinds.{row_in_range}

-- rows can be put into a table of a schema
pub record CanRun (schema : Schema) (tables : List Rows) (table : ℕ) : Type 0 where
  pub shape : HasShape schema
  pub keyed : IsKeyed (columns_of schema table)
  pub are : AreTables schema tables
  pub of_table : table < length schema.tables

-- a row that fits a table where its numbers are in range
pub record FitsButForRange (schema : Schema) (table : ℕ) (row : Cells) : Type 0 where
  pub long : length (columns_of schema table) ≡ length row
  pub fits : row_in_range row ≡ true → RowFits (columns_of schema table) row
