-- Tables that have some of the rows of others, and the rows that calls name among them.
use Rattle.std.specs.Prelude.{◌≡◌, ℕ, List, length, Some}
use Rattle.std.specs.List.{AllByRecursion}
use Rattle.rep_schema.specs.declared.schema.Schema.{Schema}
use Rattle.rep_schema.specs.Tables.{Cells, Rows, columns_of, find_row, rows_of}
use Rattle.rep_schema.specs.Changes.{row_like}
use Rattle.rep_calls.specs.declared.call.Call.{Call}
use Rattle.txn_effects.specs.Calls.{row_named}

-- each row of these tables is one of the whole tables
pub record AreSomeOf (schema : Schema) (whole some : List Rows) : Type 0 where
  pub number : length some ≡ length schema.tables
  pub rows : (table : ℕ) → AllByRecursion (λ row. row_like (columns_of schema table) row (rows_of whole table) ≡ Some row) (rows_of some table)

-- both tables have the same row with a key, or none
abbrev pub HaveAlike : Schema → List Rows → List Rows → ℕ → Cells → Type 0
HaveAlike schema whole some table key = find_row (columns_of schema table) key (rows_of whole table) ≡ find_row (columns_of schema table) key (rows_of some table)

-- the row that a call names is there afterwards if the whole tables have it, all that was alike is so still, and there
-- are no other rows than those of the whole tables
pub record TakesNamed (schema : Schema) (call : Call) (whole old new : List Rows) : Type 0 where
  pub some : AreSomeOf schema whole new
  pub named : row_named schema whole call ≡ row_named schema new call
  pub others : (table : ℕ) (key : Cells) → HaveAlike schema whole old table key → HaveAlike schema whole new table key
