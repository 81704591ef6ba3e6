-- Rows that are made anew under some keys.
use Rattle.std.specs.Prelude.{◌≡◌, ℕ, Bool, true, false, List, Option}
use Rattle.rep_lists.specs.Rising.{IsRising}
use Rattle.rep_schema.specs.declared.schema.Schema.{Schema}
use Rattle.rep_schema.specs.declared.schema.Column.{Column}
use Rattle.rep_schema.specs.Tables.{Cells, Rows, columns_of, row_cmp, find_row, rows_of}
use Rattle.rep_schema.specs.Shown.{shown_by}
use Rattle.refreshes.specs.Showing.{has_key}

-- rows in rising order have what is wanted under these keys, and under all others what they had
pub record Renews (columns : List Column) (wanted : Cells → Option Cells) (keys : List Cells) (old new : Rows) : Type 0 where
  pub rising : IsRising (row_cmp columns) new
  pub there : (key : Cells) → has_key key keys ≡ true → find_row columns key new ≡ wanted key
  pub elsewhere : (key : Cells) → has_key key keys ≡ false → find_row columns key new ≡ find_row columns key old

-- what is wanted is what a test shows of a table's rows
abbrev pub RenewsBy : Schema → List Rows → ℕ → (Cells → Bool) → List Cells → Rows → Rows → Type 0
RenewsBy schema tables table test keys old new = Renews (columns_of schema table) (λ key. shown_by test (find_row (columns_of schema table) key (rows_of tables table))) keys old new
