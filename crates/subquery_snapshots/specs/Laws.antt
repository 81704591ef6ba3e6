-- What a caller of a refresh by keys and parents can go by.
use Rattle.std.specs.Prelude.{◌≡◌, ℕ, false, List, Some, None}
use Rattle.rep_lists.specs.Rising.{IsRising}
use Rattle.rep_values.specs.Order.{key_cmp}
use Rattle.rep_schema.specs.declared.schema.Schema.{Schema}
use Rattle.rep_schema.specs.Shape.{AreDistinct}
use Rattle.rep_schema.specs.Shown.{shown_by}
use Rattle.rep_schema.specs.Tables.{Cells, Rows, columns_of, key_of, find_row, rows_of}
use Rattle.refreshes.specs.Showing.{has_key}
use Rattle.subquery_snapshots.specs.declared.rule.Rule.{Rule}
use Rattle.subquery_snapshots.specs.Rules.{rule_picks, waits, ShowsUpToDate}

-- keys in rising order are distinct
abbrev pub RisingKeysAreDistinct : Type 0
RisingKeysAreDistinct = (keys : List Cells) → IsRising key_cmp keys → AreDistinct keys

-- a row of the table that is up to date, its key being none of these and its parent neither, stands among the rows exactly where the
-- rule picks it; and under a key that is none of these and no row's of the table, no row stands there
pub record AreUpToDate (schema : Schema) (tables : List Rows) (table : ℕ) (rule : Rule) (keys parents : List Cells) (rows : Rows) : Type 0 where
  pub picked : (row : Cells) → find_row (columns_of schema table) (key_of (columns_of schema table) row) (rows_of tables table) ≡ Some row
      → has_key (key_of (columns_of schema table) row) keys ≡ false → waits rule parents row ≡ false
      → find_row (columns_of schema table) (key_of (columns_of schema table) row) rows ≡ shown_by (rule_picks schema tables rule) (Some row)
  pub absent : (key : Cells) → has_key key keys ≡ false → find_row (columns_of schema table) key (rows_of tables table) ≡ None → find_row (columns_of schema table) key rows ≡ None

-- such rows show what is up to date
abbrev pub UpToDateRowsAreShown : Type 0
UpToDateRowsAreShown = (schema : Schema) (tables : List Rows) (table : ℕ) (rule : Rule) (keys parents : List Cells) (rows : Rows)
    → AreUpToDate schema tables table rule keys parents rows → ShowsUpToDate schema tables table rule keys parents rows
