-- The laws over events hold of every world that lines lead to.
use Rattle.std.proofs.Common.{◌≡◌, ℕ, suc, List, [], ◌∷◌, sym, subst}
use Rattle.rep_schema.specs.declared.schema.Schema.{Schema}
use Rattle.site_state.specs.State.{SiteState}
use Rattle.site_events.specs.Cluster.{Cluster}
use Rattle.site_events.specs.Events.{Event, run}
use Rattle.event_laws.specs.Starts.{IsStart, InEveryRun}
use Rattle.event_laws.specs.Marks.{MarksAreLow, PurgedIsFinished, AreWellNumbered}
use Rattle.event_laws.specs.Orders.{AreFinishedOnce, AreClearedOnce, EarlierComesFirst}
use Rattle.event_laws.specs.Waiting.{SitesLinkAsDeclared, StreamsMeet}
use Rattle.event_laws.proofs.MarkLaws.{run_holds, marks_are_low, purged_is_finished, arrivals_are_well_numbered}
use Rattle.event_laws.proofs.OrderLaws.{are_finished_once, are_cleared_once, earlier_comes_first}
use Rattle.event_laws.proofs.Passing.{every_site_can_pass}
use Rattle.event_laws.proofs.Waiting.{nothing_waits_for_ever}
use Rattle.event_laws.specs.Streams.{ArrivalsAreOfStreams}
use Rattle.event_laws.proofs.Streams.{streams_meet, arrivals_are_of_streams}
use Rattle.script_parse.specs.declared.command.Command.{Command}
use Rattle.world_state.specs.World.{WorldState}
use Rattle.world_state.specs.Making.{world_made}
use Rattle.world_state.specs.Steps.{world_step, world_steps}
use Rattle.world_laws.specs.Simulation.{Leads, AreEvents}
use Rattle.world_laws.specs.Errors.{EachErrorIsWhole, EachUnclearedErrorStands}
use Rattle.world_laws.specs.Worlds.{EachCanPass, EachIsSent, AreFrom1, EachWaitsForNothing, WorldHolds, WorldsHold, NothingWaitsInWorlds}
use Rattle.world_laws.proofs.Pieces.{none_lead, then_lead, steps_are_events}
use Rattle.world_laws.proofs.Sending.{holds_packets, holds_from_1}
use Rattle.world_laws.proofs.StandingErrors.{errors_are_whole, uncleared_errors_stand}
use Rattle.world_laws.proofs.Starting.{core_of, made_start, made_simulates, made_linked}

-- lines behind Setup are a list of events
pub lines_lead : (number : ℕ) (lines : List Command) → AreEvents (world_steps number lines)
lines_lead number [] = none_lead
lines_lead number (c ∷ more) = then_lead (world_step number c) (world_steps (suc number) more) (steps_are_events number c) (lines_lead (suc number) more)

-- what holds of the sites in every run holds of a world that has such sites
in_world : (Holds : List SiteState → Type 0) → InEveryRun Holds → (w : WorldState) (schema : Schema) (start : Cluster) (events : List Event) → IsStart schema start → w.sites ≡ (run events start).sites → Holds w.sites
in_world Holds law w schema start events is same = subst Holds (sym same) (law schema start events is)

packets_are_sent : InEveryRun EachIsSent
packets_are_sent schema start events is = holds_packets _ _ (run_holds schema start events is)

arrivals_are_from_1 : InEveryRun AreFrom1
arrivals_are_from_1 schema start events is = holds_from_1 _ _ (run_holds schema start events is)

-- each law, of a world that has the sites of a run
pub holds_as_run : (w : WorldState) (schema : Schema) (start : Cluster) (events : List Event) → IsStart schema start → SitesLinkAsDeclared schema start.sites → w.sites ≡ (run events start).sites → WorldHolds w
holds_as_run w schema start events is meshed same = record {
  low = in_world MarksAreLow marks_are_low w schema start events is same;
  purged = in_world PurgedIsFinished purged_is_finished w schema start events is same;
  numbered = in_world AreWellNumbered arrivals_are_well_numbered w schema start events is same;
  once = in_world AreFinishedOnce are_finished_once w schema start events is same;
  cleared = in_world AreClearedOnce are_cleared_once w schema start events is same;
  order = in_world EarlierComesFirst earlier_comes_first w schema start events is same;
  passes = subst EachCanPass (sym same) (λ site origin x found. every_site_can_pass schema start events is meshed.declared site origin x found);
  packets = in_world EachIsSent packets_are_sent w schema start events is same;
  from_1 = in_world AreFrom1 arrivals_are_from_1 w schema start events is same;
  waits = subst EachWaitsForNothing (sym same) (λ site x found delivered finish. nothing_waits_for_ever schema start events is meshed site x found delivered finish);
  errors = subst EachErrorIsWhole (sym same) (errors_are_whole schema start events is meshed);
  uncleared = in_world EachUnclearedErrorStands uncleared_errors_stand w schema start events is same;
  streams = subst StreamsMeet (sym same) (streams_meet schema start events is meshed);
  arrived = subst ArrivalsAreOfStreams (sym same) (arrivals_are_of_streams schema start events is meshed);
}

-- and of a world that events lead to
pub world_holds : (w : WorldState) (schema : Schema) (start : Cluster) → IsStart schema start → SitesLinkAsDeclared schema start.sites → Leads w start → WorldHolds w
world_holds w schema start is meshed a = holds_as_run w schema start a.events is meshed a.simulates.sites

pub worlds_hold : WorldsHold
worlds_hold w shape number lines =
    let a = lines_lead number lines (world_made w) (core_of (world_made w)) (made_simulates w) in
    world_holds (world_steps number lines (world_made w)) w.schema (core_of (world_made w)) (made_start w) (made_linked w shape) a

pub nothing_waits_in_worlds : NothingWaitsInWorlds
nothing_waits_in_worlds w shape number lines = (worlds_hold w shape number lines).waits
