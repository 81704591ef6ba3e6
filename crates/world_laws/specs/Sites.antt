-- What holds of the sites of every world: what a refresh goes by, and what the logs have.
use Rattle.std.specs.Prelude.{◌≡◌, true, false, Option, Some, None}
use Rattle.std.specs.List.{AllByRecursion}
use Rattle.rep_values.specs.declared.name.SiteName.{SiteName}
use Rattle.rep_schema.specs.Tables.{columns_of, rows_of, IsTable, AreTables}
use Rattle.snapshot_query.specs.declared.snapshot.Snapshot.{Snapshot}
use Rattle.snapshot_query.specs.Parents.{picks}
use Rattle.site_state.specs.declared.rows.TableRows.{TableRows}
use Rattle.site_state.specs.State.{SiteState}
use Rattle.site_state.specs.Contents.{tables_of}
use Rattle.site_state.specs.Fits.{SchemaIsKeyed, SnapshotsApart, AreWithin}
use Rattle.site_events.specs.Cluster.{site_of}
use Rattle.site_events.specs.Rules.{rows_ruled}
use Rattle.site_events.specs.Events.{master_of, found_site}
use Rattle.refreshes.specs.Showing.{ShowsOthers}
use Rattle.event_laws.specs.WaitingRows.{outdated_keys}
use Rattle.event_laws.specs.RefreshLaws.{KeysRise, ParentsRise}
use Rattle.event_laws.specs.Logs.{AreNotedSince}
use Rattle.world_state.specs.World.{WorldState}
use Rattle.world_state.specs.Refusals.{young_step}

-- the master of a site of a world, where it is there
abbrev pub master_in : SiteName → WorldState → Option SiteState
master_in site w = found_site w.sites (master_of w.schema site)

-- ---- what a refresh goes by

-- a snapshot's table has, under each key that is up to date by the master's logs, what the snapshot shows of the master's
-- row
abbrev pub IsShown : SiteState → SiteState → Snapshot → Type 0
IsShown m x s = ShowsOthers (columns_of x.schema s.table) (picks x.schema (tables_of m) s) (outdated_keys x.schema m.logs (tables_of m) s) (rows_of (tables_of m) s.table) (rows_of (tables_of x) s.table)

abbrev pub OthersAreShown : SiteState → SiteState → Type 0
OthersAreShown m x = AllByRecursion (IsShown m x) x.snapshots

-- a snapshot site and its master have one schema and tables of it, and no table has two snapshots; what each snapshot picks
-- is a table; the tables of parents are there, and each pending parent comes once; and where no log is too young the others are
-- shown
pub record CanRefreshFrom (m x : SiteState) : Type 0 where
  pub keyed : SchemaIsKeyed x.schema
  pub no_master : x.here.is_master ≡ false
  pub schema : m.schema ≡ x.schema
  pub tables : AreTables x.schema (tables_of x)
  pub master : AreTables x.schema (tables_of m)
  pub within : AreWithin x.schema x.snapshots
  pub apart : SnapshotsApart x.snapshots
  pub picked : AllByRecursion (λ (t : TableRows). IsTable x.schema t.table t.rows) (rows_ruled x.schema (tables_of m) x.snapshots)
  pub parents : AllByRecursion (ParentsRise x.schema m) x.snapshots
  pub others : young_step m.logs x.snapshots ≡ None → OthersAreShown m x

-- so it is with each site of a world whose master is there
abbrev pub EachCanRefresh : WorldState → Type 0
EachCanRefresh w = (site : SiteName) (x m : SiteState) → site_of site w.sites ≡ Some x → master_in site w ≡ Some m → CanRefreshFrom m x

-- at each site of a world the keys that it changed since a snapshot's last refresh rise, and so do those that are pending: each
-- comes once
abbrev pub EachKeyComesOnce : WorldState → Type 0
EachKeyComesOnce w = (site : SiteName) (x : SiteState) → site_of site w.sites ≡ Some x → AllByRecursion KeysRise x.snapshots

-- ---- what the logs have

-- at each master of a world a key was noted since its log was purged, and not behind the present moment
abbrev pub EachIsNotedSince : WorldState → Type 0
EachIsNotedSince w = (site : SiteName) (x : SiteState) → site_of site w.sites ≡ Some x → x.here.is_master ≡ true → AllByRecursion (AreNotedSince x.moment) x.logs

-- ---- the whole

-- each site of a world is of the world's schema
abbrev pub EachIsOfSchema : WorldState → Type 0
EachIsOfSchema w = (site : SiteName) (x : SiteState) → site_of site w.sites ≡ Some x → x.schema ≡ w.schema

-- what holds of the sites of every world
pub record SnapshotsHold (w : WorldState) : Type 0 where
  pub schemas : EachIsOfSchema w
  pub refreshes : EachCanRefresh w
  pub keys : EachKeyComesOnce w
  pub logs : EachIsNotedSince w
