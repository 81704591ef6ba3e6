-- What the type of a world keeps so that the laws of snapshots hold of it.
use Rattle.std.specs.Prelude.{◌<◌, length}
use Rattle.std.specs.List.{AllByRecursion}
use Rattle.rep_schema.specs.Tables.{AreTables}
use Rattle.site_events.specs.Cluster.{Cluster}
use Rattle.event_laws.specs.Waiting.{SitesLinkAsDeclared}
use Rattle.world_state.specs.declared.declared_snapshot.DeclaredSnapshot.{DeclaredSnapshot}
use Rattle.world_state.specs.World.{WorldState}
use Rattle.world_laws.specs.Simulation.{Leads}
use Rattle.world_laws.specs.Reached.{IsInSetup}
use Rattle.event_laws.specs.SnapshotStarts.{IsSnapshotStart, IsLogStart}
use Rattle.world_laws.specs.WellDeclared.{AreDeclaredOnce, AreParentsWithin}

-- in Setup the rows are tables, the snapshots and their parents are of tables of the schema, and no site has two of one
pub record DeclaresSoFar (w : WorldState) : Type 0 where
  pub setup : IsInSetup w
  pub rows : AreTables w.schema w.base
  pub within : AllByRecursion (λ (s : DeclaredSnapshot). s.table < length w.schema.tables) w.snapshots
  pub once : AreDeclaredOnce w.snapshots
  pub parents : AreParentsWithin w.schema w.snapshots

-- behind Setup events lead here from where the laws of snapshots and of logs begin, with sites as the schema declares them
pub record GoesOn (w : WorldState) : Type 0 where
  pub start : Cluster
  pub snapshots : IsSnapshotStart w.schema start
  pub logs : IsLogStart w.schema start
  pub meshed : SitesLinkAsDeclared w.schema start.sites
  pub leads : Leads w start

-- a world of some script: in Setup, or behind it
pub data IsOfSnapshots (w : WorldState) : Type 0 where
  Declares : DeclaresSoFar w → IsOfSnapshots w
  Goes : GoesOn w → IsOfSnapshots w
