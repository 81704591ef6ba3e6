-- A world that events lead to from a start: what the type of a world keeps behind Setup.
use Rattle.std.specs.Prelude.{◌≡◌, true, [], None}
use Rattle.rep_schema.specs.declared.schema.Schema.{Schema}
use Rattle.rep_schema.specs.Shape.{HasShape}
use Rattle.site_events.specs.Cluster.{Cluster}
use Rattle.event_laws.specs.Starts.{IsStart}
use Rattle.event_laws.specs.Waiting.{SitesLinkAsDeclared}
use Rattle.world_state.specs.World.{WorldState}
use Rattle.world_state.specs.Phases.{is_setup}
use Rattle.world_laws.specs.Simulation.{Leads}

-- some start of a schema, with sites as the schema declares them, and some events from it
pub record Reaches (w : WorldState) : Type 0 where
  pub schema : Schema
  pub start : Cluster
  pub is : IsStart schema start
  pub meshed : SitesLinkAsDeclared schema start.sites
  pub leads : Leads w start

abbrev pub IsReached : WorldState → Type 0
IsReached w = ∥ Reaches w ∥₁

-- in Setup there are no sites and no block is open
pub record IsInSetup (w : WorldState) : Type 0 where
  pub setup : is_setup w.phase ≡ true
  pub sites : w.sites ≡ []
  pub block : w.block ≡ None
  pub shape : HasShape w.schema

-- a world of some script: in Setup, or one that events lead to from where Setup ended
pub data IsOfScript (w : WorldState) : Type 0 where
  InSetup : IsInSetup w → IsOfScript w
  Behind : Reaches w → IsOfScript w
