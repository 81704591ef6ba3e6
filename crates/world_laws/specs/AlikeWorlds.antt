-- What the type of a world keeps so that the laws of convergence hold of it.
use Rattle.std.specs.Prelude.{◌≡◌}
use Rattle.rep_schema.specs.declared.schema.Schema.{Schema}
use Rattle.site_events.specs.Cluster.{Cluster}
use Rattle.event_laws.specs.Fitting.{IsFitStart}
use Rattle.event_laws.specs.Waiting.{SitesLinkAsDeclared}
use Rattle.world_state.specs.World.{WorldState}
use Rattle.world_state.specs.Making.{world_made}
use Rattle.world_laws.specs.Simulation.{Leads}
use Rattle.world_laws.specs.WellDeclared.{DeclaresWell}
use Rattle.world_laws.specs.Starts.{start_of}
use Rattle.world_laws.specs.SnapshotWorlds.{DeclaresSoFar, GoesOn}
use Rattle.world_laws.specs.AlikeMasters.{MastersBeginAlike}

-- masters begin alike where Setup's end makes them
abbrev pub MadeWorldsBeginAlike : Type 0
MadeWorldsBeginAlike = (w : WorldState) → DeclaresWell w → MastersBeginAlike w.schema (start_of (world_made w))

-- the laws of snapshots go on to hold of a world, and events lead to it from sites of its schema where masters begin alike
pub record GoesOnAlike (w : WorldState) : Type 0 where
  pub goes : GoesOn w
  pub schema : Schema
  pub of_schema : schema ≡ w.schema
  pub start : Cluster
  pub fit : IsFitStart schema start
  pub meshed : SitesLinkAsDeclared schema start.sites
  pub alike : MastersBeginAlike schema start
  pub leads : Leads w start

-- a world of some script: in Setup, or behind it
pub data IsOfConvergence (w : WorldState) : Type 0 where
  Declaring : DeclaresSoFar w → IsOfConvergence w
  Going : GoesOnAlike w → IsOfConvergence w
