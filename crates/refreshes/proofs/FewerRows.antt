-- A row that is unique among the rows of a table is unique among fewer of them.
use Rattle.std.proofs.Common.{◌≡◌, ◌≢◌, ℕ, List, Some}
use Rattle.rep_lists.specs.Rising.{IsRising}
use Rattle.rep_schema.specs.declared.schema.Schema.{Schema}
use Rattle.rep_schema.specs.declared.schema.Column.{Column}
use Rattle.rep_schema.specs.Tables.{Cells, Rows, columns_of, constraint_columns_of, key_of, row_cmp, find_row, picked, IsUniqueRow}
use Rattle.rep_schema.proofs.TableSteps.{any_from_none}
use Rattle.rep_schema.proofs.FoundRows.{found_row}
use Rattle.rep_schema.proofs.FilteredRows.{none_from_any}
use Rattle.refreshes.proofs.RowsFound.{all_from_finds}

module _ (schema : Schema) (table : ℕ) where
  abbrev columns : List Column
  columns = columns_of schema table

  abbrev Clashes : ℕ → Cells → Cells → Type 0
  Clashes c row other = (key_of columns other ≢ key_of columns row) × (picked (constraint_columns_of schema table c) other ≡ picked (constraint_columns_of schema table c) row)

  -- a row that is unique among some rows is unique among fewer
  pub IsUniqueRow-fewer : (row : Cells) (rows all : Rows) → IsRising (row_cmp columns) rows
      → ((other : Cells) → find_row columns (key_of columns other) rows ≡ Some other → find_row columns (key_of columns other) all ≡ Some other)
      → IsUniqueRow schema table row all → IsUniqueRow schema table row rows
  IsUniqueRow-fewer row rows all rising within unique = record {
    unheld = λ c below. any_from_none (Clashes c row) rows
        (all_from_finds columns (λ other. ¬ Clashes c row other) rows rising
        (λ other found. found_row columns (key_of columns other) other all (within other found) (λ x. ¬ Clashes c row x) (none_from_any (Clashes c row) all (unique.unheld c below))));
  }
