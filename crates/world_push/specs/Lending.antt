-- A master that is lent out for a live part: when it may be, what comes in before, and what goes back behind it.
use Rattle.std.specs.Prelude.{◌≡◌, ◌||◌, ◌&&◌, not, Bool, true, false, List, [], ◌∷◌, filter, Option, Some, None}
use Rattle.rep_values.specs.declared.name.SiteName.{SiteName}
use Rattle.rep_values.specs.declared.refusal.Refusal.{Refusal}
use Rattle.rep_values.specs.declared.refusal.Refusal.TheVariants as refusal
use Rattle.rep_values.specs.RefusalSteps.{refused, or_then}
use Rattle.rep_schema.specs.Sites.{senders_of, is_among}
use Rattle.net_plan.specs.Directions.{HasDirection, is_up}
use Rattle.site_state.specs.State.{SiteState}
use Rattle.site_state.specs.Steps.{begun}
use Rattle.site_events.specs.Cluster.{site_of}
use Rattle.site_events.specs.Events.{is_master_in}
use Rattle.live_laws.specs.declared.turn.LiveTurn.{LiveTurn}
use Rattle.live_laws.specs.declared.turn.Session.{Session}
use Rattle.live_laws.specs.Turns.{site_after}
use Rattle.world_state.specs.World.{WorldState, with_site}
use Rattle.world_state.specs.Phases.{is_running, has_block}
use Rattle.world_state.specs.Pushes.{pushed_in, world_return_mark}
use Rattle.world_laws.specs.Simulation.{AreEvents}
use Rattle.world.specs.Following.{PushesInPart, IsBuilt}

-- ---- when

-- a live part is for Running while no block is open
abbrev pub live_phase_step : WorldState → Option Refusal
live_phase_step w = refused (not (is_running w.phase) || has_block w) refusal.WrongPhase

-- why the site of a name may not be lent out, if something hinders it: only a master that is there may be
abbrev pub live_refusal : SiteName → WorldState → Option Refusal
live_refusal name w = or_then (live_phase_step w) (refused (not (is_master_in (site_of name w.sites))) refusal.UnknownName)

-- ---- what comes in before

-- a master that is there reaches a site: the direction to it is up
abbrev pub reaches : SiteName → WorldState → SiteName → Bool
reaches name w from = is_master_in (site_of from w.sites) && is_up from name w.net

-- the other masters that reach a master, in declared order
abbrev pub reaching : SiteName → WorldState → List SiteName
reaching name w = filter (reaches name w) (senders_of w.schema name)

-- what these sent and wasn't acknowledged comes to a site, of one after the other
abbrev pub brought_from : List SiteName → SiteName → WorldState → WorldState
brought_from [] name w = w
brought_from (from ∷ more) name w = brought_from more name (pushed_in from name None w)

-- so it is of all that reach the site, and then a pass begins there: the site stands as it is lent out
abbrev pub live_opened : SiteName → WorldState → WorldState
live_opened name w = with_site name begun (brought_from (reaching name w) name w)

-- ---- what goes back behind

-- the mark for what came from these goes back to them, to one after the other
abbrev pub answered_to : List SiteName → SiteName → WorldState → WorldState
answered_to [] name w = w
answered_to (to ∷ more) name w = answered_to more name (world_return_mark name to w)

-- so it does to all that reach the site. No link changes while a site is lent, so they are those from which all came in
abbrev pub live_closed : SiteName → WorldState → WorldState
live_closed name w = answered_to (reaching name w) name w

-- a site stands in the place of the one of its name
abbrev pub given_back : SiteName → SiteState → WorldState → WorldState
given_back name x w = with_site name (λ old. x) w

-- ---- in part

-- pushes from these to a site were done in part, one after the other
abbrev pub PushEachInPart : List SiteName → SiteName → WorldState → WorldState → Type 0
PushEachInPart [] name old new = new ≡ old
PushEachInPart (from ∷ more) name old new = (middle : WorldState) × (PushesInPart from name old middle × PushEachInPart more name middle new)

-- from each of these there is a direction to a site, and one back
abbrev pub AreLinkedTo : List SiteName → SiteName → WorldState → Type 0
AreLinkedTo names name w = (from : SiteName) → is_among names from ≡ true → HasDirection w.net from name × HasDirection w.net name from

-- ---- laws

-- what is done before a live part, and behind it, are events of the world
abbrev pub LendingsAreEvents : Type 0
LendingsAreEvents = (name : SiteName) → AreEvents (live_opened name) × AreEvents (live_closed name)

-- a world that is built stays so as a site is lent out
abbrev pub LendingsKeepWorldsBuilt : Type 0
LendingsKeepWorldsBuilt = (name : SiteName) (w : WorldState) → IsBuilt w → live_refusal name w ≡ None → IsBuilt (live_opened name w)

-- it is so too where the site comes back as turns leave it, whatever turns these are
abbrev pub LivePartsKeepWorldsBuilt : Type 0
LivePartsKeepWorldsBuilt = (name : SiteName) (w : WorldState) (x : SiteState) (sessions : List Session) (turns : List LiveTurn) → IsBuilt w → live_refusal name w ≡ None
    → site_of name (live_opened name w).sites ≡ Some x → IsBuilt (given_back name (site_after sessions turns x) (live_opened name w))

-- and as the marks go back
abbrev pub ReturnsKeepWorldsBuilt : Type 0
ReturnsKeepWorldsBuilt = (name : SiteName) (w : WorldState) → IsBuilt w → is_running w.phase ≡ true → IsBuilt (live_closed name w)
