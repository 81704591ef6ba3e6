-- What the methods ask of a part of an update.
use Rattle.std.specs.Prelude.{ℕ, ◌<◌, length}
use Rattle.rep_schema.specs.declared.schema.Schema.{Schema}
use Rattle.rep_schema.specs.Shape.{HasShape}
use Rattle.rep_schema.specs.Tables.{Cells, RowFits, columns_of}
use Rattle.rep_schema.specs.Groups.{columns_in_group}
use Rattle.rep_calls.specs.declared.call.Part.{Part}

-- the old and the new values of a part match the columns of its group
pub record HasGroupValues (schema : Schema) (table : ℕ) (part : Part) : Type 0 where
  pub old : RowFits (columns_in_group schema table part.group) part.old
  pub new : RowFits (columns_in_group schema table part.group) part.new

-- a part of an update of a row of a table, of whose values there may be a conflict
pub record IsDecidable (schema : Schema) (table : ℕ) (part : Part) (current : Cells) : Type 0 where
  pub of_table : table < length schema.tables
  pub shape : HasShape schema
  pub values : HasGroupValues schema table part
  pub row : RowFits (columns_of schema table) current
