-- What the type of a world keeps behind Setup, how each piece of a line keeps it, and what holds of it.
use Rattle.std.proofs.Common.{◌≡◌, ℕ, List, [], ◌∷◌, ◌++◌, false, refl, ap, ◌∙◌, sym, subst}
use Rattle.std.specs.List.{AllByRecursion}
use mathlib.Core.Logic.{∥∥₁_elim, ∥∥₁_map}
use Rattle.std.proofs.Math.Bridge.{le_prop}
use Rattle.std.proofs.Math.Bool.{Bool-set}
use Rattle.rep_schema.specs.Shape.{HasShape}
use Rattle.site_events.specs.Events.{run}
use Rattle.event_laws.specs.Marks.{MarksAreLow, PurgedIsFinished, AreWellNumbered}
use Rattle.event_laws.specs.Orders.{AreFinishedOnce, AreClearedOnce}
use Rattle.script_parse.specs.declared.command.Command.{Command}
use Rattle.world_state.specs.World.{WorldState}
use Rattle.world_state.specs.Making.{world_made}
use Rattle.world_state.specs.Phases.{is_setup}
use Rattle.world_state.specs.Steps.{world_step}
use Rattle.world_laws.specs.Simulation.{Simulates, AreEvents}
use Rattle.world_laws.specs.Worlds.{EachIsSent, AreFrom1, EachWaitsForNothing, WorldHolds}
use Rattle.world_laws.specs.Reached.{Reaches, IsReached}
use Rattle.event_laws.proofs.Runs.{run-append}
use Rattle.world_laws.proofs.Pieces.{none_lead, steps_are_events}
use Rattle.world_laws.proofs.Starting.{core_of, made_start, made_simulates, made_linked}
use Rattle.world_laws.proofs.WorldLaws.{world_holds}

-- a piece of a line keeps it
pub reached_by : (change : WorldState → WorldState) → AreEvents change → (w : WorldState) → IsReached w → IsReached (change w)
reached_by change are w reached = ∥∥₁_map reached go
  where
    go : Reaches w → Reaches (change w)
    go r = let a = are w (run r.leads.events r.start) r.leads.simulates in record {
      schema = r.schema;
      start = r.start;
      is = r.is;
      meshed = r.meshed;
      leads = record { events = a.events ++ r.leads.events; simulates = subst (Simulates (change w)) (sym (run-append a.events r.leads.events r.start)) a.simulates };
    }

-- so does a line
pub reached_step : (number : ℕ) (c : Command) (w : WorldState) → IsReached w → IsReached (world_step number c w)
reached_step number c w reached = reached_by (world_step number c) (steps_are_events number c) w reached

-- it begins where Setup ends
pub made_reached : (w : WorldState) → HasShape w.schema → IsReached (world_made w)
made_reached w shape = ∣ record {
  schema = w.schema;
  start = core_of (world_made w);
  is = made_start w;
  meshed = made_linked w shape;
  leads = none_lead (world_made w) (core_of (world_made w)) (made_simulates w);
} ∣₁

-- ---- what holds of it

holds_of : (w : WorldState) → Reaches w → WorldHolds w
holds_of w r = world_holds w r.schema r.start r.is r.meshed r.leads

pub reached_behind : (w : WorldState) → IsReached w → is_setup w.phase ≡ false
reached_behind w reached = ∥∥₁_elim reached (Bool-set _ _) (λ r. r.leads.simulates.behind)

pub reached_low : (w : WorldState) → IsReached w → MarksAreLow w.sites
reached_low w reached = λ origin site. ∥∥₁_elim reached (λ x y. le_prop x y) (λ r. (holds_of w r).low origin site)

pub reached_purged : (w : WorldState) → IsReached w → PurgedIsFinished w.sites
reached_purged w reached = λ origin site x opened number found is above below. ∥∥₁_elim reached (Bool-set _ _) (λ r. (holds_of w r).purged origin site x opened number found is above below)

pub reached_numbered : (w : WorldState) → IsReached w → AreWellNumbered w.sites
reached_numbered w reached = λ site origin x found p q a b at_a at_b less shared. ∥∥₁_elim reached (λ x y. le_prop x y) (λ r. (holds_of w r).numbered site origin x found p q a b at_a at_b less shared)

pub reached_once : (w : WorldState) → IsReached w → AreFinishedOnce w.sites
reached_once w reached = λ site origin position. ∥∥₁_elim reached (λ x y. le_prop x y) (λ r. (holds_of w r).once site origin position)

pub reached_until_quiet : (w : WorldState) → IsReached w → AreClearedOnce w.sites
reached_until_quiet w reached = λ site origin position. ∥∥₁_elim reached (λ x y. le_prop x y) (λ r. (holds_of w r).cleared site origin position)

-- in the loop of a push each position has its packet
pub reached_packets : (w : WorldState) → IsReached w → EachIsSent w.sites
reached_packets w reached = λ from to x position found above within none. ∥∥₁_elim reached (λ a b. absurd a) (λ r. (holds_of w r).packets from to x position found above within none)

all_prop : {X : Type 0} (P : X → Type 0) → ((x : X) (p q : P x) → p ≡ q) → (xs : List X) (p q : AllByRecursion P xs) → p ≡ q
all_prop P prop [] p q = refl
all_prop P prop (x ∷ xs) p q = ap (λ u. (u, p.1)) (prop x p.0 q.0) ∙ ap (λ v. (q.0, v)) (all_prop P prop xs p.1 q.1)

-- in a round the least ready position tells whether some is ready
pub reached_from_1 : (w : WorldState) → IsReached w → AreFrom1 w.sites
reached_from_1 w reached = λ site origin x found. ∥∥₁_elim reached (all_prop _ (λ a p q. le_prop p q) _) (λ r. (holds_of w r).from_1 site origin x found)

-- nothing waits for ever
pub reached_waits_for_nothing : (w : WorldState) → IsReached w → EachWaitsForNothing w.sites
reached_waits_for_nothing w reached site x found delivered finish = λ origin position there. ∥∥₁_elim reached (Bool-set _ _) (λ r. (holds_of w r).waits site x found delivered finish origin position there)
