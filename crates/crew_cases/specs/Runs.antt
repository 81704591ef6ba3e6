-- Two sites that stand in a run of events.
use Rattle.std.specs.Prelude.{◌≡◌, ℕ, true, false, List, [], Some, length, replicate, map, nat_lt}
use Rattle.std.specs.List.{range_with_len}
use Rattle.rep_values.specs.declared.name.SiteName.{SiteName}
use Rattle.rep_schema.specs.declared.schema.Schema.{Schema}
use Rattle.rep_calls.specs.declared.statement.Statement.{Statement}
use Rattle.packet_code.specs.declared.packet.Packet.{Packet}
use Rattle.txn_effects.specs.declared.local.Here.{Here}
use Rattle.rep_values.specs.SiteNames.{is_same_site}
use Rattle.site_state.specs.declared.arrival.Arrival.{Arrival}
use Rattle.site_state.specs.State.{SiteState}
use Rattle.rep_schema.specs.Sites.{is_master_site}
use Rattle.site_state.specs.Steps.{begun}
use Rattle.site_state.specs.Passes.{apply_each}
use Rattle.site_state.specs.Making.{new_site}
use Rattle.site_state.specs.Commits.{site_commit}
use Rattle.site_state.specs.Packets.{site_packet, site_accept}
use Rattle.rep_laws.specs.Commuting.{IsSound}
use Rattle.site_events.specs.Cluster.{Cluster, site_of}
use Rattle.site_events.specs.Events.{Event, run}
use Rattle.event_laws.specs.Fitting.{IsFitStart}
use Rattle.event_laws.specs.Declared.{AreDeclared}
use Rattle.event_laws.specs.Confluence.{CanPassInAnyOrder}

-- a site that writes, and another one that takes in what it sends
pub record Two : Type 0 where
  pub from : SiteState
  pub to : SiteState

-- after some events of a fit start the two sites are there
pub record AreInARun (from to : SiteState) : Type 0 where
  pub schema : Schema
  pub start : Cluster
  pub events : List Event
  pub fit : IsFitStart schema start
  pub declared : AreDeclared schema start.sites
  pub from_there : site_of from.here.site (run events start).sites ≡ Some from
  pub to_there : site_of to.here.site (run events start).sites ≡ Some to
  pub apart : is_same_site from.here.site to.here.site ≡ false
  pub of_schema : to.schema ≡ schema

-- a site without rows, logs and snapshots
abbrev pub opened : Schema → Here → SiteState
opened schema here = new_site schema here (map (λ table. nat_lt table 0) (range_with_len 0 32)) [] (replicate (length schema.tables) [])

-- two sites of a sound schema that are new are in such a run
abbrev pub TwoBegin : Type 0
TwoBegin = (schema : Schema) (from to : Here) → IsSound schema → from.is_master ≡ is_master_site schema from.site → to.is_master ≡ is_master_site schema to.site
    → is_same_site from.site to.site ≡ false → AreInARun (opened schema from) (opened schema to)

-- so they are after a block
abbrev pub TwoCommit : Type 0
TwoCommit = (from to : SiteState) (statements : List Statement) → AreInARun from to → AreInARun (site_commit statements from) to

-- and after the packet of a position
abbrev pub TwoDeliver : Type 0
TwoDeliver = (from to : SiteState) (position : ℕ) (packet : Packet) → AreInARun from to → site_packet to.here.site position from ≡ Some packet → AreInARun from (site_accept packet to)

-- and after a pass of the other site, or a front of one
abbrev pub TwoApply : Type 0
TwoApply = (from to : SiteState) (origin : SiteName) (arrived : List Arrival) → AreInARun from to → AreInARun from (apply_each origin arrived (begun to))

-- then the other site can pass in any order
abbrev pub TwoPass : Type 0
TwoPass = (from to : SiteState) → AreInARun from to → is_master_site to.schema from.here.site ≡ true → CanPassInAnyOrder from.here.site to
