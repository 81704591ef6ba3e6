-- A query without tests, which every row passes.
use Rattle.std.proofs.Common.{◌≡◌, [], ◌∷◌, true, false, Bool, List, Option, Some, None, filter, refl, sym, ap, ◌∙◌}
use Rattle.rep_lists.specs.Rising.{IsRising}
use Rattle.rep_schema.specs.declared.schema.Column.{Column}
use Rattle.rep_schema.specs.Tables.{Cells, Rows, row_cmp, find_row}
use Rattle.rep_schema.specs.Shown.{shown_by}
use Rattle.rep_schema.proofs.FilteredRows.{find_row-filter}
use Rattle.snapshot_query.specs.declared.query.Query.{Query}
use Rattle.snapshot_query.specs.Queries.{matches, query_rows}
use Rattle.refreshes.specs.Showing.{ShowsOthers}

-- each row passes
pub any_matches : (query : Query) (row : Cells) → query.tests ≡ [] → matches query row ≡ true
any_matches query row none = rw none refl

-- so it picks all
pub any_rows : (query : Query) (rows : Rows) → query.tests ≡ [] → query_rows query rows ≡ rows
any_rows query [] none = refl
any_rows query (row ∷ rows) none = rw (any_matches query row none) (ap (λ (more : Rows). row ∷ more) (any_rows query rows none))

-- and shows each
pub any_shown : (query : Query) (row : Option Cells) → query.tests ≡ [] → shown_by (matches query) row ≡ row
any_shown query None none = refl
any_shown query (Some row) none = rw (any_matches query row none) refl

-- rows that show all of what a test picks show what it picks
pub shows_picked : (columns : List Column) (query : Query) (test : Cells → Bool) (keys : List Cells) (master rows : Rows) → query.tests ≡ [] → IsRising (row_cmp columns) master
    → ShowsOthers columns (matches query) keys (filter test master) rows → ShowsOthers columns test keys master rows
shows_picked columns query test keys master rows none rising others = record {
  shows = λ key apart. others.shows key apart ∙ any_shown query (find_row columns key (filter test master)) none ∙ find_row-filter columns test key master rising;
}
