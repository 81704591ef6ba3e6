-- A snapshot site gets its rows anew.
use Rattle.std.specs.Prelude.{ℕ, List, [], ◌∷◌, map, slice_set, sum, length}
use Rattle.rep_schema.specs.Tables.{Rows, rows_of}
use Rattle.snapshot_query.specs.declared.snapshot.Snapshot.{Snapshot}
use Rattle.snapshot_query.specs.Queries.{query_rows}
use Rattle.site_state.specs.declared.entry.Entry.TheVariants.{Refreshed}
use Rattle.site_state.specs.declared.answers.RefreshCount.{RefreshCount}
use Rattle.site_state.specs.declared.rows.TableRows.{TableRows}
use Rattle.site_state.specs.State.{SiteState}
use Rattle.change_logs.specs.LogState.{LogState}
use Rattle.site_state.specs.Contents.{tables_of}
use Rattle.change_logs.specs.Noting.{pending_keys, renewed}
use Rattle.site_state.specs.Steps.{journalled}

-- what snapshots show of a master's tables: of each its query
abbrev pub rows_shown : List Rows → List Snapshot → List TableRows
rows_shown tables snapshots = map (λ (s : Snapshot). record { table = s.table; rows = query_rows s.query (rows_of tables s.table) }) snapshots

-- tables with these rows in place of theirs
abbrev pub with_tables : List TableRows → List Rows → List Rows
with_tables [] tables = tables
with_tables (t ∷ ts) tables = with_tables ts (slice_set tables t.table t.rows)

-- the snapshots get these rows, at this moment of the master: the tables with them are the base rows from then on
abbrev pub site_refresh : List TableRows → ℕ → SiteState → SiteState
site_refresh rows moment x = record (journalled (Refreshed moment) x) {
  base = with_tables rows (tables_of x);
  snapshots = map (renewed moment) x.snapshots;
}

abbrev pub row_count : TableRows → ℕ
row_count t = length t.rows

-- how many rows the snapshots have after a refresh that goes by no log
abbrev pub refresh_complete_answer : List TableRows → RefreshCount
refresh_complete_answer rows = record { keys = 0; rows = sum (map row_count rows) }

-- and how many keys one looks up that goes by the master's logs
abbrev pub refresh_fast_answer : List LogState → List TableRows → SiteState → RefreshCount
refresh_fast_answer logs rows x = record { keys = sum (map (λ (s : Snapshot). length (pending_keys logs s)) x.snapshots); rows = sum (map row_count rows) }
