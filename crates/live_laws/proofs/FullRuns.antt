-- All full runs from one site finish the same positions.
use Rattle.std.proofs.Common.{◌≡◌, ℕ, List, [], ◌∷◌, Bool, true, false, refl, sym, ◌∙◌, subst}
use Rattle.std.specs.Prelude.{◌||◌}
use Rattle.std.specs.Cmp.{both_ways}
use Rattle.std.proofs.lemmas.Bool.{and_parts, true≢false}
use Rattle.rep_values.specs.declared.name.SiteName.{SiteName}
use Rattle.site_state.specs.State.{SiteState}
use Rattle.rep_schema.specs.Sites.{is_among}
use Rattle.site_state.specs.Journal.{finished, is_position}
use Rattle.site_state.specs.Ready.{is_ready}
use Rattle.site_state.specs.Passes.{site_apply}
use Rattle.site_state.proofs.Stepping.{Steps, is_position-true, apply_steps}
use Rattle.live_laws.specs.declared.turn.LiveTurn.{LiveTurn}
use Rattle.live_laws.specs.declared.turn.LiveTurn.TheVariants.{Applied, Committed}
use Rattle.live_laws.specs.declared.turn.Session.{Session}
use Rattle.live_laws.specs.Turns.{block_of, site_after_turn, site_after, IsRun, NothingReadyOf, IsFullRun}
use Rattle.live_laws.specs.RisingNumbers.{HasRisingNumbers}
use Rattle.live_laws.specs.FullRuns.{FullRunsFinishTheSame}
use Rattle.live_laws.proofs.Readiness.{Reaches, reaches_same, reaches_then, steps_reach, is_ready-Reaches, rising_after_steps}
use Rattle.live_laws.proofs.TurnSteps.{turn_steps, finished-site_apply, finished-committed_block}

-- ---- a site at which nothing is ready has finished all that a run finishes, if it had so at the run's start

-- a position that is applied is one that the other site has finished
apply_reaches : (origins : List SiteName) (origin : SiteName) (position : ℕ) (x z : SiteState) → HasRisingNumbers z → NothingReadyOf origins z → Reaches x z
    → is_among origins origin ≡ true → is_ready origin position x ≡ true → Reaches (site_apply origin position x) z
apply_reaches origins origin position x z numbers none reaches among ready = record {
  senders = reaches.senders ∙ sym steps.senders;
  here = reaches.here ∙ sym steps.here;
  more = λ o p done. more o p (is_position o p origin position) refl (sym (finished-site_apply origin position x ready o p) ∙ done);
}
  where
    steps : Steps x (site_apply origin position x)
    steps = apply_steps origin position x

    known : (b : Bool) → finished origin z.journal position ≡ b → b ≡ true
    known true is = refl
    known false is = absurd (true≢false (sym (is_ready-Reaches x z numbers reaches origin position ready is) ∙ none origin position among))

    there : finished origin z.journal position ≡ true
    there = known (finished origin z.journal position) refl

    more : (o : SiteName) (p : ℕ) (b : Bool) → is_position o p origin position ≡ b → (b || finished o x.journal p) ≡ true → finished o z.journal p ≡ true
    more o p true at done =
        let same = is_position-true o origin p position at in
        subst (λ (q : ℕ). finished o z.journal q ≡ true) same.1 (subst (λ (n : SiteName). finished n z.journal position ≡ true) same.0 there)
    more o p false at done = reaches.more o p done

run_reaches : (origins : List SiteName) (sessions : List Session) (turns : List LiveTurn) (x z : SiteState) → HasRisingNumbers z → NothingReadyOf origins z → Reaches x z
    → IsRun origins sessions turns x → Reaches (site_after sessions turns x) z
run_reaches origins sessions [] x z numbers none reaches run = reaches
run_reaches origins sessions (Applied origin position call error ∷ turns) x z numbers none reaches run =
    let may = and_parts (is_among origins origin) (is_ready origin position x) run.0.may in
    run_reaches origins sessions turns (site_apply origin position x) z numbers none (apply_reaches origins origin position x z numbers none reaches may.0 may.1) run.1
run_reaches origins sessions (Committed session block reply ∷ turns) x z numbers none reaches run =
    run_reaches origins sessions turns y z numbers none (record {
      senders = reaches.senders ∙ sym steps.senders;
      here = reaches.here ∙ sym steps.here;
      more = λ o p done. reaches.more o p (sym (finished-committed_block (block_of session block sessions) x o p) ∙ done);
    }) run.1
  where
    y : SiteState
    y = site_after_turn sessions (Committed session block reply) x

    steps : Steps x y
    steps = turn_steps sessions (Committed session block reply) x

-- ---- a run goes on from its start

pub run_goes_on : (sessions : List Session) (turns : List LiveTurn) (x : SiteState) → Reaches x (site_after sessions turns x)
run_goes_on sessions [] x = reaches_same x
run_goes_on sessions (turn ∷ turns) x =
    let y = site_after_turn sessions turn x in
    reaches_then x y (site_after sessions turns y) (steps_reach x y (turn_steps sessions turn x)) (run_goes_on sessions turns y)

-- and its numbers go on to rise
rising_after_run : (sessions : List Session) (turns : List LiveTurn) (x : SiteState) → HasRisingNumbers x → HasRisingNumbers (site_after sessions turns x)
rising_after_run sessions [] x numbers = numbers
rising_after_run sessions (turn ∷ turns) x numbers =
    rising_after_run sessions turns (site_after_turn sessions turn x) (rising_after_steps x (site_after_turn sessions turn x) (turn_steps sessions turn x) numbers)

-- ---- full runs finish the same

full_reaches : (origins : List SiteName) (sessions : List Session) (x : SiteState) (turns others : List LiveTurn) → HasRisingNumbers x → IsFullRun origins sessions turns x → IsFullRun origins sessions others x
    → Reaches (site_after sessions turns x) (site_after sessions others x)
full_reaches origins sessions x turns others numbers full other =
    run_reaches origins sessions turns x (site_after sessions others x) (rising_after_run sessions others x numbers) other.none (run_goes_on sessions others x) full.run

pub full_runs_finish_the_same : FullRunsFinishTheSame
full_runs_finish_the_same origins sessions x turns others numbers full other origin position =
    both_ways (finished origin (site_after sessions turns x).journal position) (finished origin (site_after sessions others x).journal position)
    ((full_reaches origins sessions x turns others numbers full other).more origin position)
    ((full_reaches origins sessions x others turns numbers other full).more origin position)
