-- Where runs with snapshots begin.
use Rattle.std.specs.Prelude.{◌≡◌, ◌≤◌, true, List, [], Option, Some, None, is_some}
use Rattle.std.specs.List.{AllByRecursion}
use Rattle.rep_lists.specs.Rising.{IsRising}
use Rattle.rep_values.specs.Order.{key_cmp}
use Rattle.rep_schema.specs.declared.schema.Schema.{Schema}
use Rattle.rep_schema.specs.Tables.{rows_of}
use Rattle.snapshot_query.specs.declared.snapshot.Snapshot.{Snapshot}
use Rattle.snapshot_query.specs.Parents.{rule_rows}
use Rattle.site_state.specs.State.{SiteState}
use Rattle.change_logs.specs.LogState.{LogState}
use Rattle.change_logs.specs.Noting.{log_of}
use Rattle.site_state.specs.Fits.{SnapshotsApart}
use Rattle.site_events.specs.Cluster.{Cluster}
use Rattle.site_events.specs.Rules.{IsParentWithin, IsParentLogged}
use Rattle.site_events.specs.Events.{master_of, found_site}
use Rattle.event_laws.specs.Fitting.{IsFitStart}
use Rattle.event_laws.specs.WaitingRows.{DoParentsRise}

-- the master of a site, where it is there
abbrev pub master_at : List SiteState → SiteState → Option SiteState
master_at sites x = found_site sites (master_of x.schema x.here.site)

-- a snapshot as it is made: its master is a master and has logs of its table and of its parents' table, the keys of which rise; its
-- rows are those that it picks of the master's; and the keys that its site has touched rise, if there are any
pub record StartsShown (m x : SiteState) (s : Snapshot) : Type 0 where
  pub master : m.here.is_master ≡ true
  pub logged : is_some (log_of s.table m.logs) ≡ true
  pub parent_logged : IsParentLogged m.logs s.parent
  pub parent_within : IsParentWithin x.schema s.parent
  pub parents_rise : DoParentsRise m.logs s.parent
  pub below : s.mark ≤ m.moment
  pub rows : rows_of x.base s.table ≡ rule_rows x.schema m.base s
  pub touched : IsRising key_cmp s.touched

-- and its master is there
abbrev pub StartsFrom : Option SiteState → SiteState → Snapshot → Type 0
StartsFrom None x s = ⊥
StartsFrom (Some m) x s = StartsShown m x s

pub record StartsWithSnapshots (sites : List SiteState) (x : SiteState) : Type 0 where
  pub apart : SnapshotsApart x.snapshots
  pub shown : AllByRecursion (StartsFrom (master_at sites x) x) x.snapshots

-- the sites fit, each snapshot shows its master's table, and no pass was begun
pub record IsSnapshotStart (schema : Schema) (w : Cluster) : Type 0 where
  pub fit : IsFitStart schema w
  pub sites : AllByRecursion (StartsWithSnapshots w.sites) w.sites
  pub begun : w.begun ≡ []

-- a log of which nothing was noted or purged
abbrev pub IsNewLog : LogState → Type 0
IsNewLog log = (log.keys ≡ []) × (log.purged ≡ 0)

-- the sites fit, their logs are new, and no pass was begun
pub record IsLogStart (schema : Schema) (w : Cluster) : Type 0 where
  pub fit : IsFitStart schema w
  pub logs : AllByRecursion (λ (x : SiteState). AllByRecursion IsNewLog x.logs) w.sites
  pub begun : w.begun ≡ []
