-- What snapshots show by their rules, which pick a row by its parent or else by a query, and what a refresh by the logs goes by then.
use Rattle.std.specs.Prelude.{◌≡◌, ℕ, ◌+◌, ◌<◌, ◌||◌, Bool, true, false, nat_lt, List, [], map, length, sum, Option, Some, None, is_some}
use Rattle.std.specs.List.{AllByRecursion}
use Rattle.rep_schema.specs.declared.schema.Schema.{Schema}
use Rattle.rep_schema.specs.Tables.{Cells, Rows}
use Rattle.snapshot_query.specs.declared.parent.Parent.{Parent}
use Rattle.snapshot_query.specs.declared.snapshot.Snapshot.{Snapshot}
use Rattle.snapshot_query.specs.Parents.{rule_rows}
use Rattle.site_state.specs.declared.answers.RefreshCount.{RefreshCount}
use Rattle.site_state.specs.declared.rows.TableRows.{TableRows}
use Rattle.site_state.specs.State.{SiteState}
use Rattle.change_logs.specs.LogState.{LogState}
use Rattle.change_logs.specs.Noting.{log_of, keys_in, purged_of, logged_above, pending_keys, is_too_young}
use Rattle.site_state.specs.Refreshes.{rows_shown, row_count}

-- the rows that a snapshot picks of a master's tables
abbrev pub table_ruled : Schema → List Rows → Snapshot → TableRows
table_ruled schema tables s = record { table = s.table; rows = rule_rows schema tables s }

-- what snapshots show of a master's tables: of each the rows that it picks
abbrev pub rows_ruled : Schema → List Rows → List Snapshot → List TableRows
rows_ruled schema tables snapshots = map (table_ruled schema tables) snapshots

-- ---- what a refresh by the logs goes by

-- the keys of the parents that were changed at the master above a mark, by the log of their table
abbrev pub parents_above : List LogState → ℕ → Option Parent → List Cells
parents_above logs mark None = []
parents_above logs mark (Some p) = logged_above mark (keys_in (log_of p.table logs))

-- the pending parents of a snapshot, by its master's logs
abbrev pub pending_parents : List LogState → Snapshot → List Cells
pending_parents logs s = parents_above logs s.mark s.parent

-- the log of the parents was purged above a mark
abbrev pub is_purged_above : List LogState → ℕ → Option Parent → Bool
is_purged_above logs mark None = false
is_purged_above logs mark (Some p) = nat_lt mark (purged_of p.table logs)

abbrev pub has_young_parents : List LogState → Snapshot → Bool
has_young_parents logs s = is_purged_above logs s.mark s.parent

-- the log of the table or that of the parents was purged above a snapshot's mark, so that they don't tell all that changed since
abbrev pub is_young : List LogState → Snapshot → Bool
is_young logs s = is_too_young logs s || has_young_parents logs s

-- how many keys and parents a refresh by the logs looks up for a snapshot
abbrev pub looked_up : List LogState → Snapshot → ℕ
looked_up logs s = length (pending_keys logs s) + length (pending_parents logs s)

-- and for all of a site, with how many rows they have then
abbrev pub refresh_ruled_answer : List LogState → List TableRows → SiteState → RefreshCount
refresh_ruled_answer logs rows x = record { keys = sum (map (looked_up logs) x.snapshots); rows = sum (map row_count rows) }

-- ---- snapshots without parents

abbrev pub HaveNoParents : List Snapshot → Type 0
HaveNoParents snapshots = AllByRecursion (λ (s : Snapshot). s.parent ≡ None) snapshots

-- such snapshots show what their queries pick, and a refresh by the logs goes by the pending keys alone
pub record QueriesAreRules : Type 0 where
  pub rows : (schema : Schema) (tables : List Rows) (snapshots : List Snapshot) → HaveNoParents snapshots → rows_ruled schema tables snapshots ≡ rows_shown tables snapshots
  pub young : (logs : List LogState) (s : Snapshot) → s.parent ≡ None → is_young logs s ≡ is_too_young logs s
  pub counted : (logs : List LogState) (s : Snapshot) → s.parent ≡ None → looked_up logs s ≡ length (pending_keys logs s)

-- ---- the table of the parents

-- it is a schema's
abbrev pub IsParentWithin : Schema → Option Parent → Type 0
IsParentWithin schema None = Unit {0}
IsParentWithin schema (Some p) = p.table < length schema.tables

-- it has a log
abbrev pub IsParentLogged : List LogState → Option Parent → Type 0
IsParentLogged logs None = Unit {0}
IsParentLogged logs (Some p) = is_some (log_of p.table logs) ≡ true
