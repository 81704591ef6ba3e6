-- What the steps of putting a base row and of filling base rows in take and tell.
use Rattle.std.specs.Prelude.{◌≡◌, ℕ, cond, List, length, None}
use Rattle.std.specs.List.{list_any}
use Rattle.rep_values.specs.declared.literal.Literal.{Literal}
use Rattle.rep_values.specs.RefusalSteps.{first_refusal}
use Rattle.rep_schema.specs.declared.schema.Schema.{Schema}
use Rattle.rep_schema.specs.declared.schema.Column.{Column}
use Rattle.rep_schema.specs.Tables.{Cells, Rows, columns_of, rows_of, RowFits, IsKeyed, IsUniqueRow}
use Rattle.rep_schema.specs.Kinds.{is_filled}
use Rattle.local_txn.specs.BaseRows.{base_row, base_steps}

-- the row that literals write for a table, which may be put there
pub record IsBaseRow (schema : Schema) (tables : List Rows) (table : ℕ) (values : List Literal) (row : Cells) : Type 0 where
  pub accepted : first_refusal (base_steps schema tables table values) ≡ None
  pub written : row ≡ base_row schema table values
  pub keyed : IsKeyed (columns_of schema table)
  pub fits : RowFits (columns_of schema table) row
  pub unique : IsUniqueRow schema table row (rows_of tables table)

-- how many rows of a table are filled in: all of them, or none where no column is
abbrev pub fill_count : List Column → Rows → ℕ
fill_count columns rows = cond (list_any is_filled columns) (length rows) 0
