-- What a test of rows shows of a master's rows. The test of a query is whether the row passes all its tests.
use Rattle.std.specs.Prelude.{◌≡◌, ℕ, Bool, false, filter, List, Option}
use Rattle.std.specs.List.{list_any}
use Rattle.rep_lists.specs.Rising.{IsRising}
use Rattle.rep_schema.specs.declared.schema.Schema.{Schema}
use Rattle.rep_schema.specs.declared.schema.Column.{Column}
use Rattle.rep_schema.specs.Tables.{Cells, Rows, row_cmp, find_row, IsTable}
use Rattle.rep_schema.specs.Shown.{shown_by}
use Rattle.rep_schema.specs.Groups.{are_same}
use Rattle.snapshot_query.specs.declared.query.Query.{Query}
use Rattle.snapshot_query.specs.Queries.{matches}

-- what a query shows of a row that is or isn't there
abbrev pub shown : Query → Option Cells → Option Cells
shown query = shown_by (matches query)

-- a key is among these
abbrev pub has_key : Cells → List Cells → Bool
has_key key keys = list_any (are_same key) keys

-- under a key that isn't among these, the rows have what a test shows of the master's rows
abbrev pub ShowsKey : List Column → (Cells → Bool) → List Cells → Rows → Rows → Cells → Type 0
ShowsKey columns test keys master rows key = has_key key keys ≡ false → find_row columns key rows ≡ shown_by test (find_row columns key master)

-- and so they have under every such key
pub record ShowsOthers (columns : List Column) (test : Cells → Bool) (keys : List Cells) (master rows : Rows) : Type 0 where
  pub shows : (key : Cells) → ShowsKey columns test keys master rows key

-- the row of a key among those that a test picks is what the test shows of the table's row
abbrev pub FindsWhatIsShown : Type 0
FindsWhatIsShown = (columns : List Column) (test : Cells → Bool) (key : Cells) (rows : Rows) → IsRising (row_cmp columns) rows
    → find_row columns key (filter test rows) ≡ shown_by test (find_row columns key rows)

-- what a test picks from a table is a table
abbrev pub PicksTables : Type 0
PicksTables = (schema : Schema) (table : ℕ) (test : Cells → Bool) (rows : Rows) → IsTable schema table rows → IsTable schema table (filter test rows)
