-- The rows that a snapshot's pending keys and parents make.
use Rattle.std.specs.Prelude.{Bool, List, [], ◌∷◌, map, Option, Some, None}
use Rattle.rep_schema.specs.declared.schema.Column.{Column}
use Rattle.rep_schema.specs.Tables.{Cells, Rows, columns_of, find_row, put_row, take_row, rows_of}
use Rattle.rep_schema.specs.Shown.{shown_by}
use Rattle.snapshot_query.specs.declared.snapshot.Snapshot.{Snapshot}
use Rattle.snapshot_query.specs.Parents.{picks}
use Rattle.site_state.specs.declared.rows.TableRows.{TableRows}
use Rattle.site_state.specs.State.{SiteState}
use Rattle.site_state.specs.Contents.{tables_of}
use Rattle.event_laws.specs.WaitingRows.{outdated_keys}

-- rows with this one under a key, or with none there
abbrev pub with_row : List Column → Cells → Option Cells → Rows → Rows
with_row columns key None rows = take_row columns key rows
with_row columns key (Some row) rows = put_row columns row rows

-- rows with what a test shows of the master's rows under each of these keys
abbrev pub rows_from_keys : List Column → (Cells → Bool) → Rows → List Cells → Rows → Rows
rows_from_keys columns test master [] rows = rows
rows_from_keys columns test master (key ∷ keys) rows = rows_from_keys columns test master keys (with_row columns key (shown_by test (find_row columns key master)) rows)

-- the rows of a snapshot's table, made from the keys that aren't up to date by its master's logs
abbrev pub pending_table : SiteState → SiteState → Snapshot → TableRows
pending_table m x s = record {
  table = s.table;
  rows = rows_from_keys (columns_of x.schema s.table) (picks x.schema (tables_of m) s) (rows_of (tables_of m) s.table) (outdated_keys x.schema m.logs (tables_of m) s) (rows_of (tables_of x) s.table);
}

-- and of all snapshots of a site
abbrev pub pending_rows : SiteState → SiteState → List TableRows
pending_rows m x = map (pending_table m x) x.snapshots
