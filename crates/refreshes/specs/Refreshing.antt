-- What a refresh of all snapshots of a site asks for, and what it counts.
use Rattle.std.specs.Prelude.{◌≡◌, ◌≢◌, ℕ, List, [], ◌∷◌, map, sum, length}
use Rattle.std.specs.List.{AllByRecursion, Any}
use Rattle.rep_schema.specs.declared.schema.Schema.{Schema}
use Rattle.rep_schema.specs.Tables.{Rows, columns_of, rows_of, IsTable}
use Rattle.snapshot_query.specs.declared.snapshot.Snapshot.{Snapshot}
use Rattle.snapshot_query.specs.Queries.{matches}
use Rattle.site_state.specs.declared.answers.RefreshCount.{RefreshCount}
use Rattle.site_state.specs.declared.rows.TableRows.{TableRows}
use Rattle.change_logs.specs.LogState.{LogState}
use Rattle.change_logs.specs.Noting.{pending_keys}
use Rattle.site_state.specs.Refreshes.{row_count}
use Rattle.refreshes.specs.Showing.{ShowsOthers}

-- each snapshot's table has, under each key that isn't pending, what the snapshot shows of the master's row
abbrev pub OthersAreShown : Schema → List LogState → List Rows → List Snapshot → List Rows → Type 0
OthersAreShown schema logs master snapshots tables =
    AllByRecursion (λ (s : Snapshot). ShowsOthers (columns_of schema s.table) (matches s.query) (pending_keys logs s) (rows_of master s.table) (rows_of tables s.table)) snapshots

-- no rows are given twice for a table
abbrev pub AreGivenOnce : List TableRows → Type 0
AreGivenOnce [] = Unit {0}
AreGivenOnce (t ∷ ts) = AllByRecursion (λ (other : TableRows). other.table ≢ t.table) ts × AreGivenOnce ts

-- rows are given for the table of each snapshot, once, and for no other; they are a table
pub record AreGivenFor (schema : Schema) (snapshots : List Snapshot) (rows : List TableRows) : Type 0 where
  pub each : AllByRecursion (λ (s : Snapshot). Any (λ (t : TableRows). t.table ≡ s.table) rows) snapshots
  pub others : AllByRecursion (λ (t : TableRows). Any (λ (s : Snapshot). s.table ≡ t.table) snapshots) rows
  pub once : AreGivenOnce rows
  pub tables : AllByRecursion (λ (t : TableRows). IsTable schema t.table t.rows) rows

-- how many keys the snapshots have that are pending
abbrev pub pending_count : List LogState → List Snapshot → ℕ
pending_count logs snapshots = sum (map (λ (s : Snapshot). length (pending_keys logs s)) snapshots)

-- how many keys were looked up, and how many rows the snapshots have
abbrev pub counted : ℕ → List TableRows → RefreshCount
counted keys rows = record { keys = keys; rows = sum (map row_count rows) }
