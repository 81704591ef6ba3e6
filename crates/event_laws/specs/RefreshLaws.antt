-- What snapshots show of their masters, whatever happens.
use Rattle.std.specs.Prelude.{◌≡◌, false, List, ◌∷◌, Some}
use Rattle.std.specs.List.{AllByRecursion}
use Rattle.rep_lists.specs.Rising.{IsRising}
use Rattle.rep_values.specs.declared.name.SiteName.{SiteName}
use Rattle.rep_values.specs.Order.{key_cmp}
use Rattle.rep_schema.specs.declared.schema.Schema.{Schema}
use Rattle.rep_schema.specs.Tables.{columns_of, rows_of}
use Rattle.snapshot_query.specs.declared.snapshot.Snapshot.{Snapshot}
use Rattle.snapshot_query.specs.Parents.{picks}
use Rattle.site_state.specs.State.{SiteState}
use Rattle.change_logs.specs.LogState.{LogState}
use Rattle.site_state.specs.Contents.{tables_of}
use Rattle.change_logs.specs.Noting.{pending_keys}
use Rattle.site_events.specs.Cluster.{Cluster, site_of}
use Rattle.site_events.specs.Rules.{rows_ruled, pending_parents, is_young, IsParentWithin}
use Rattle.site_events.specs.Events.{Event, Refresh, run}
use Rattle.refreshes.specs.Showing.{ShowsOthers}
use Rattle.event_laws.specs.WaitingRows.{outdated_keys}
use Rattle.event_laws.specs.Pending.{pending_rows}
use Rattle.event_laws.specs.SnapshotStarts.{master_at, IsSnapshotStart}
use Rattle.event_laws.specs.Refreshed.{IsRuled}

-- so it is with every master and each site that has snapshots of it, after every list of events
abbrev pub WithEveryMaster : (SiteState → SiteState → Type 0) → Type 0
WithEveryMaster Holds = (schema : Schema) (start : Cluster) (events : List Event) → IsSnapshotStart schema start → (site : SiteName) (x m : SiteState)
    → site_of site (run events start).sites ≡ Some x → master_at (run events start).sites x ≡ Some m → Holds m x

-- where no log that it goes by is too young, a snapshot's table has under each up-to-date key what the snapshot shows of the
-- master's row
abbrev pub OthersAreShown : SiteState → SiteState → Snapshot → Type 0
OthersAreShown m x s = is_young m.logs s ≡ false
    → ShowsOthers (columns_of x.schema s.table) (picks x.schema (tables_of m) s) (outdated_keys x.schema m.logs (tables_of m) s) (rows_of (tables_of m) s.table) (rows_of (tables_of x) s.table)

abbrev pub OtherKeysAreTheMasters : Type 0
OtherKeysAreTheMasters = WithEveryMaster (λ m x. AllByRecursion (OthersAreShown m x) x.snapshots)

-- where no log is too young, the rows that the pending keys and parents make are those that the snapshots pick
abbrev pub FastIsComplete : Type 0
FastIsComplete = WithEveryMaster (λ m x. AllByRecursion (λ (s : Snapshot). is_young m.logs s ≡ false) x.snapshots → pending_rows m x ≡ rows_ruled x.schema (tables_of m) x.snapshots)

-- a snapshot's table has the rows that it picks of the master's, its mark is the master's moment, and nothing is touched
abbrev pub ShowsTheMaster : SiteState → SiteState → Snapshot → Type 0
ShowsTheMaster m y s = IsRuled y.schema (tables_of m) m.moment (tables_of y) s

-- so it is after every refresh of a snapshot site
abbrev pub RefreshedIsTheRule : Type 0
RefreshedIsTheRule = (schema : Schema) (start : Cluster) (events : List Event) → IsSnapshotStart schema start → (site : SiteName) (x m y : SiteState)
    → site_of site (run events start).sites ≡ Some x → master_at (run events start).sites x ≡ Some m → x.here.is_master ≡ false
    → site_of site (run (Refresh site ∷ events) start).sites ≡ Some y → AllByRecursion (ShowsTheMaster m y) y.snapshots

-- the keys that a snapshot's site has changed since its last refresh rise, and so do those that are pending by whatever logs: each
-- comes once
pub record KeysRise (s : Snapshot) : Type 0 where
  pub touched : IsRising key_cmp s.touched
  pub pending : (logs : List LogState) → IsRising key_cmp (pending_keys logs s)

-- so it is with each snapshot of every site, after every list of events
abbrev pub SnapshotKeysRise : Type 0
SnapshotKeysRise = (schema : Schema) (start : Cluster) (events : List Event) → IsSnapshotStart schema start → (site : SiteName) (x : SiteState)
    → site_of site (run events start).sites ≡ Some x → AllByRecursion KeysRise x.snapshots

-- the table of a snapshot's parents is there, and the keys of its pending parents rise: each comes once
pub record ParentsRise (schema : Schema) (m : SiteState) (s : Snapshot) : Type 0 where
  pub within : IsParentWithin schema s.parent
  pub pending : IsRising key_cmp (pending_parents m.logs s)

-- so it is with each snapshot of every site whose master is there
abbrev pub PendingParentsRise : Type 0
PendingParentsRise = WithEveryMaster (λ m x. AllByRecursion (ParentsRise x.schema m) x.snapshots)
