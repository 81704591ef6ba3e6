-- A live part at a site of a world: what is done before it, in it and behind it are events, and the world stays built.
use Rattle.std.proofs.Common.{◌≡◌, List, [], ◌∷◌, ◌++◌, Bool, true, false, Some, None, refl, sym, ap, ◌∙◌, subst}
use Rattle.std.specs.Prelude.{◌||◌, not}
use Rattle.rep_values.specs.declared.name.SiteName.{SiteName}
use Rattle.rep_values.specs.declared.refusal.Refusal.TheVariants as refusal
use Rattle.rep_values.specs.RefusalSteps.{refused}
use Rattle.rep_values.proofs.RefusalSteps.{or_then-None, refused-None}
use Rattle.site_state.specs.State.{SiteState}
use Rattle.site_state.specs.Steps.{begun}
use Rattle.site_events.specs.Cluster.{Cluster, site_of, at_site}
use Rattle.site_events.specs.Events.{Begin, is_master_in}
use Rattle.live_laws.specs.declared.turn.LiveTurn.{LiveTurn}
use Rattle.live_laws.specs.declared.turn.Session.{Session}
use Rattle.live_laws.specs.Turns.{site_after, site_after_turn}
use Rattle.live_laws.specs.RunLaws.{events_of}
use Rattle.live_laws.proofs.TurnSteps.{turn_steps}
use Rattle.live_laws.proofs.TurnEvents.{live_parts_are_events}
use Rattle.world_state.specs.declared.phase.Phase.{Phase}
use Rattle.world_state.specs.declared.phase.Phase.TheVariants as phase
use Rattle.world_state.specs.World.{WorldState, with_site}
use Rattle.world_state.specs.Phases.{is_setup, is_running, has_block}
use Rattle.world_state.specs.Pushes.{pushed_in, world_return_mark}
use Rattle.world_laws.specs.Simulation.{Simulates, Leads, AreEvents}
use Rattle.world_laws.proofs.Finding.{at_found}
use Rattle.event_laws.proofs.Sites.{at_twice}
use Rattle.world_laws.proofs.SiteSteps.{SiteRuns}
use Rattle.world_laws.proofs.Pieces.{none_lead, then_lead, site_leads, pushed_in_leads, return_mark_leads}
use Rattle.world_laws.proofs.ProceduresStay.{same_procs}
use Rattle.world.specs.Following.{IsBuilt}
use Rattle.world.proofs.Apart.{apart_behind}
use Rattle.world.proofs.Following.{of_script_leads, of_convergence_leads}
use Rattle.world_push.specs.Lending.{live_phase_step, live_refusal, reaching, brought_from, live_opened, answered_to, live_closed, given_back, LendingsAreEvents, LendingsKeepWorldsBuilt, LivePartsKeepWorldsBuilt, ReturnsKeepWorldsBuilt}
use Rattle.world_push.proofs.PartlyPushed.{brought_in_part, answered_each_in_part, behind_each, built_each}

-- ---- events

-- turns leave what a site is
turns_here : (sessions : List Session) (turns : List LiveTurn) (x : SiteState) → (site_after sessions turns x).here ≡ x.here
turns_here sessions [] x = refl
turns_here sessions (turn ∷ turns) x = turns_here sessions turns (site_after_turn sessions turn x) ∙ (turn_steps sessions turn x).here

-- a pass begins at a site, and turns follow
pub live_part_does : (name : SiteName) (sessions : List Session) (turns : List LiveTurn) → SiteRuns name (λ x. site_after sessions turns (begun x))
live_part_does name sessions turns = record {
  keeps = λ x. turns_here sessions turns (begun x);
  runs = λ x v found. record {
    events = events_of name sessions turns ++ Begin name ∷ [];
    sites = ap (λ (u : Cluster). u.sites) (live_parts_are_events name sessions turns v);
    sent = ap (λ (u : Cluster). u.sent) (live_parts_are_events name sessions turns v);
  };
}

brought_leads : (names : List SiteName) (name : SiteName) → AreEvents (brought_from names name)
brought_leads [] name = none_lead
brought_leads (from ∷ more) name = then_lead (pushed_in from name None) (brought_from more name) (pushed_in_leads from name None) (brought_leads more name)

answered_lead : (names : List SiteName) (name : SiteName) → AreEvents (answered_to names name)
answered_lead [] name = none_lead
answered_lead (to ∷ more) name = then_lead (world_return_mark name to) (answered_to more name) (return_mark_leads name to) (answered_lead more name)

opened_leads : (name : SiteName) → AreEvents (live_opened name)
opened_leads name w v s =
    then_lead (brought_from (reaching name w) name) (with_site name begun) (brought_leads (reaching name w) name) (site_leads name begun (live_part_does name [] [])) w v s

closed_leads : (name : SiteName) → AreEvents (live_closed name)
closed_leads name w v s = answered_lead (reaching name w) name w v s

pub lendings_are_events : LendingsAreEvents
lendings_are_events name = (opened_leads name, closed_leads name)

-- ---- worlds that are built

-- what one site does by itself keeps a world built
built_site : (name : SiteName) (change : SiteState → SiteState) → SiteRuns name change → (w : WorldState) → is_setup w.phase ≡ false → IsBuilt w → IsBuilt (with_site name change w)
built_site name change does w behind built = record {
  of_script = of_script_leads w (with_site name change w) behind built.of_script leads;
  of_convergence = of_convergence_leads w (with_site name change w) behind built.of_convergence refl leads;
  shape = built.shape;
  apart = apart_behind w (with_site name change w) behind built.of_script leads built.apart;
  linked = built.linked;
  procs = same_procs w (with_site name change w) refl refl refl built.procs;
  calls_linked = built.calls_linked;
}
  where
    leads : (v : Cluster) → Simulates w v → Leads (with_site name change w) v
    leads v s = site_leads name change does w v s

first_false : (b c : Bool) → (b || c) ≡ false → b ≡ false
first_false true c is = absurd (cc is)
first_false false c is = refl

-- while it is Running Setup is over
pub running_behind : (p : Phase) → is_running p ≡ true → is_setup p ≡ false
running_behind phase.Setup is = absurd (cc is)
running_behind phase.Running is = refl
running_behind phase.Suspended is = refl

not_false : (b : Bool) → not b ≡ false → b ≡ true
not_false true is = refl
not_false false is = absurd (cc is)

-- where a site may be lent out Setup is over
pub lent_behind : (name : SiteName) (w : WorldState) → live_refusal name w ≡ None → is_setup w.phase ≡ false
lent_behind name w passes =
    let first : live_phase_step w ≡ None = (or_then-None (live_phase_step w) (refused (not (is_master_in (site_of name w.sites))) refusal.UnknownName) passes).0 in
    running_behind w.phase (not_false (is_running w.phase) (first_false (not (is_running w.phase)) (has_block w) (refused-None (not (is_running w.phase) || has_block w) refusal.WrongPhase first)))

module _ (name : SiteName) (w : WorldState) (built : IsBuilt w) (behind : is_setup w.phase ≡ false) where
  came_built : IsBuilt (brought_from (reaching name w) name w)
  came_built = built_each (reaching name w) name w _ (brought_in_part (reaching name w) name w) behind built

  came_behind : is_setup (brought_from (reaching name w) name w).phase ≡ false
  came_behind = behind_each (reaching name w) name w _ (brought_in_part (reaching name w) name w) behind

  -- as a site is lent out
  pub opened_built : IsBuilt (live_opened name w)
  opened_built = built_site name begun (live_part_does name [] []) (brought_from (reaching name w) name w) came_behind came_built

  -- as it comes back
  pub part_built : (x : SiteState) (sessions : List Session) (turns : List LiveTurn) → site_of name (live_opened name w).sites ≡ Some x → IsBuilt (given_back name (site_after sessions turns x) (live_opened name w))
  part_built x sessions turns found = subst IsBuilt (sym same) (built_site name (λ y. site_after sessions turns (begun y)) (live_part_does name sessions turns) (brought_from (reaching name w) name w) came_behind came_built)
    where
      same : given_back name (site_after sessions turns x) (live_opened name w) ≡ with_site name (λ y. site_after sessions turns (begun y)) (brought_from (reaching name w) name w)
      same = ap (λ (sites : List SiteState). record (brought_from (reaching name w) name w) { sites = sites })
          (at_found name (λ old. site_after sessions turns x) (site_after sessions turns) (at_site name begun (brought_from (reaching name w) name w).sites) x found refl
          ∙ at_twice name begun (site_after sessions turns) (brought_from (reaching name w) name w).sites (λ y. refl))

  -- as the marks go back
  pub closed_built : IsBuilt (live_closed name w)
  closed_built = built_each (reaching name w) name w _ (answered_each_in_part (reaching name w) name w) behind built

pub lendings_keep_worlds_built : LendingsKeepWorldsBuilt
lendings_keep_worlds_built name w built passes = opened_built name w built (lent_behind name w passes)

pub live_parts_keep_worlds_built : LivePartsKeepWorldsBuilt
live_parts_keep_worlds_built name w x sessions turns built passes found = part_built name w built (lent_behind name w passes) x sessions turns found

pub returns_keep_worlds_built : ReturnsKeepWorldsBuilt
returns_keep_worlds_built name w built running = closed_built name w built (running_behind w.phase running)
