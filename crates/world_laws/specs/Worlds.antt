-- What holds of every world that lines lead to from the one that Setup's end makes.
use Rattle.std.specs.Prelude.{◌≡◌, ◌≢◌, ℕ, ◌<◌, ◌≤◌, List, length, Option, Some, None}
use Rattle.std.specs.List.{AllByRecursion}
use Rattle.rep_values.specs.declared.name.SiteName.{SiteName}
use Rattle.rep_schema.specs.Shape.{HasShape}
use Rattle.site_state.specs.declared.arrival.Arrival.{Arrival}
use Rattle.site_state.specs.Arrivals.{CanPass}
use Rattle.site_state.specs.State.{SiteState, arrivals, acked_of}
use Rattle.site_state.specs.Streams.{stream_to}
use Rattle.site_state.specs.Packets.{site_packet}
use Rattle.site_events.specs.Cluster.{site_of}
use Rattle.event_laws.specs.Marks.{MarksAreLow, PurgedIsFinished, AreWellNumbered}
use Rattle.event_laws.specs.Orders.{AreFinishedOnce, AreClearedOnce, EarlierComesFirst}
use Rattle.event_laws.specs.Waiting.{StreamsMeet, IsDelivered, PassesFinishNothing, NothingWaits}
use Rattle.event_laws.specs.Streams.{ArrivalsAreOfStreams}
use Rattle.script_parse.specs.declared.command.Command.{Command}
use Rattle.world_state.specs.World.{WorldState}
use Rattle.world_state.specs.Making.{world_made}
use Rattle.world_state.specs.Pushes.{world_push}
use Rattle.world_state.specs.Steps.{world_steps}
use Rattle.world_laws.specs.Errors.{EachErrorIsWhole, EachUnclearedErrorStands}
use Rattle.site_state.specs.Rounds.{NothingReady}

-- every site can make a pass for every sender
abbrev pub EachCanPass : List SiteState → Type 0
EachCanPass sites = (site origin : SiteName) (x : SiteState) → site_of site sites ≡ Some x → CanPass origin (arrivals origin x)

-- each position above the acknowledged mark has its packet
abbrev pub EachIsSent : List SiteState → Type 0
EachIsSent sites = (from to : SiteName) (x : SiteState) (position : ℕ) → site_of from sites ≡ Some x → acked_of to x < position → position ≤ length (stream_to to x) → site_packet to position x ≢ None

-- positions that arrived are from 1
abbrev pub AreFrom1 : List SiteState → Type 0
AreFrom1 sites = (site origin : SiteName) (x : SiteState) → site_of site sites ≡ Some x → AllByRecursion (λ (a : Arrival). 0 < a.position) (arrivals origin x)

-- where all that was queued for a site has arrived there and a pass of any sender finishes nothing, nothing waits there
abbrev pub EachWaitsForNothing : List SiteState → Type 0
EachWaitsForNothing sites = (site : SiteName) (x : SiteState) → site_of site sites ≡ Some x → IsDelivered sites site x → PassesFinishNothing x → NothingWaits x

-- the laws over events, of the sites of a world
pub record WorldHolds (w : WorldState) : Type 0 where
  pub low : MarksAreLow w.sites
  pub purged : PurgedIsFinished w.sites
  pub numbered : AreWellNumbered w.sites
  pub once : AreFinishedOnce w.sites
  pub cleared : AreClearedOnce w.sites
  pub order : EarlierComesFirst w.sites
  pub passes : EachCanPass w.sites
  pub packets : EachIsSent w.sites
  pub from_1 : AreFrom1 w.sites
  pub waits : EachWaitsForNothing w.sites
  pub errors : EachErrorIsWhole w.sites
  pub uncleared : EachUnclearedErrorStands w.sites
  pub streams : StreamsMeet w.sites
  pub arrived : ArrivalsAreOfStreams w.sites

-- they hold of the world that Setup's end makes of a schema that has its shape, and of each that further lines make of it
abbrev pub WorldsHold : Type 0
WorldsHold = (w : WorldState) → HasShape w.schema → (number : ℕ) (lines : List Command) → WorldHolds (world_steps number lines (world_made w))

-- once a push to another site is done no position of any sender is ready at the receiver
abbrev pub PushesLeaveNothingReady : Type 0
PushesLeaveNothingReady = (from to : SiteName) (count : Option ℕ) (w : WorldState) (x : SiteState) → from ≢ to
    → site_of to (world_push from to count w).sites ≡ Some x → NothingReady x

-- so nothing waits for ever in any of these worlds
abbrev pub NothingWaitsInWorlds : Type 0
NothingWaitsInWorlds = (w : WorldState) → HasShape w.schema → (number : ℕ) (lines : List Command) → EachWaitsForNothing (world_steps number lines (world_made w)).sites
