-- Which rows wait for a parent, so that a refresh by the logs looks up their keys too, and what is asked of the log of parents.
use Rattle.std.specs.Prelude.{◌≡◌, ℕ, ◌≤◌, Bool, false, List, ◌++◌, map, filter, Option, Some, None}
use Rattle.std.specs.declared.cmp.Ordering.{Ordering}
use Rattle.rep_lists.specs.Rising.{IsRising}
use Rattle.rep_values.specs.Order.{key_cmp}
use Rattle.rep_schema.specs.declared.schema.Schema.{Schema}
use Rattle.rep_schema.specs.declared.schema.Column.{Column}
use Rattle.rep_schema.specs.Tables.{Cells, Rows, columns_of, key_of, rows_of}
use Rattle.snapshot_query.specs.declared.parent.Parent.{Parent}
use Rattle.snapshot_query.specs.declared.snapshot.Snapshot.{Snapshot}
use Rattle.snapshot_query.specs.Parents.{parent_key}
use Rattle.change_logs.specs.LogState.{LoggedKey, LogState}
use Rattle.change_logs.specs.Noting.{log_of, keys_in, purged_of, pending_keys}
use Rattle.site_events.specs.Rules.{pending_parents}
use Rattle.refreshes.specs.Showing.{has_key}

-- ---- rows that wait

-- a row's parent is among these
abbrev pub waits_for : Option Parent → List Cells → Cells → Bool
waits_for None parents row = false
waits_for (Some p) parents row = has_key (parent_key p row) parents

-- so it is with a row that is there
abbrev pub is_waiting : Option Parent → List Cells → Option Cells → Bool
is_waiting parent parents None = false
is_waiting parent parents (Some row) = waits_for parent parents row

-- the keys of the rows whose parent is among these
abbrev pub waiting_keys : List Column → Option Parent → List Cells → Rows → List Cells
waiting_keys columns parent parents rows = map (key_of columns) (filter (waits_for parent parents) rows)

-- the keys that aren't up to date by a master's logs and tables: a snapshot's pending keys, and those of the rows that wait for its
-- pending parents
abbrev pub outdated_keys : Schema → List LogState → List Rows → Snapshot → List Cells
outdated_keys schema logs tables s = pending_keys logs s ++ waiting_keys (columns_of schema s.table) s.parent (pending_parents logs s) (rows_of tables s.table)

-- ---- the log of the parents

-- logged keys compared
abbrev pub logged_cmp : LoggedKey → LoggedKey → Ordering
logged_cmp one other = key_cmp one.key other.key

-- its keys rise
abbrev pub DoParentsRise : List LogState → Option Parent → Type 0
DoParentsRise logs None = Unit {0}
DoParentsRise logs (Some p) = IsRising logged_cmp (keys_in (log_of p.table logs))

-- it isn't purged above a mark
abbrev pub IsParentOld : List LogState → ℕ → Option Parent → Type 0
IsParentOld logs mark None = Unit {0}
IsParentOld logs mark (Some p) = purged_of p.table logs ≤ mark
