-- A world and sites to which the same has happened: the world's sites are these, and its links carry what was sent.
use Rattle.std.specs.Prelude.{◌≡◌, ℕ, false, List, slice_get, Option, Some}
use Rattle.std.specs.List.{AllByRecursion}
use Rattle.rep_values.specs.declared.name.SiteName.{SiteName}
use Rattle.rep_values.specs.declared.refusal.Refusal.{Refusal}
use Rattle.packet_code.specs.declared.packet.Packet.{Packet}
use Rattle.net_plan.specs.Directions.{Direction}
use Rattle.site_events.specs.Cluster.{Cluster}
use Rattle.site_events.specs.Events.{Event, receiver, run}
use Rattle.script_parse.specs.declared.command.Command.{Command}
use Rattle.world_state.specs.World.{WorldState}
use Rattle.world_state.specs.Phases.{is_setup}
use Rattle.world_state.specs.Steps.{step_by, world_step}

-- a packet goes to a site, and is one of those that were ever sent
pub record WasSent (sent : List Packet) (to : SiteName) (packet : Packet) : Type 0 where
  pub goes : receiver packet ≡ to
  pub which : ℕ
  pub is : slice_get sent which ≡ Some packet

-- so are all that a direction holds or has on the way
pub record CarriesSent (sent : List Packet) (d : Direction) : Type 0 where
  pub held : AllByRecursion (WasSent sent d.to) d.held
  pub on_way : AllByRecursion (WasSent sent d.to) d.on_way

-- a world behind Setup has these sites, and its links carry what was sent
pub record Simulates (w : WorldState) (v : Cluster) : Type 0 where
  pub behind : is_setup w.phase ≡ false
  pub sites : w.sites ≡ v.sites
  pub net : AllByRecursion (CarriesSent v.sent) w.net

-- events lead from there to what a world simulates
pub record Leads (w : WorldState) (v : Cluster) : Type 0 where
  pub events : List Event
  pub simulates : Simulates w (run events v)

-- what is done to a world is a list of events, beside changes of the phase, the block, the links and what is declared
abbrev pub AreEvents : (WorldState → WorldState) → Type 0
AreEvents change = (w : WorldState) (v : Cluster) → Simulates w v → Leads (change w) v

-- each line behind Setup is
abbrev pub StepsAreEvents : Type 0
StepsAreEvents = (number : ℕ) (command : Command) → AreEvents (world_step number command)

-- whatever refusal it meets, and where it meets none
abbrev pub StepsAreEventsHoweverRefused : Type 0
StepsAreEventsHoweverRefused = (why : Option Refusal) (number : ℕ) (command : Command) → AreEvents (step_by why number command)
