-- What a crew's turns keep, and that what an applier evaluated holds when it is put in.
use Rattle.std.proofs.Common.{◌≡◌, ℕ, List, [], ◌∷◌, ◌++◌, Bool, true, false, cond, Some, None, Result, Ok, Err, refl, sym, ap, ◌∙◌, subst, append-nil}
use Rattle.std.specs.Prelude.{Option, IfSome, not, ◌&&◌, is_none, nat_lt}
use Rattle.rep_values.specs.declared.name.SiteName.{SiteName}
use Rattle.rep_laws.specs.Commuting.{IsSound}
use Rattle.site_state.specs.State.{SiteState, arrived_at}
use Rattle.site_state.specs.Journal.{finished}
use Rattle.site_state.specs.declared.answers.Why.{Why}
use Rattle.site_state.specs.declared.answers.Why.TheVariants as why
use Rattle.site_state.specs.declared.arrival.Arrival.{Arrival}
use Rattle.site_state.specs.Ready.{stale_of, stale_found, is_due, is_ready, first_ready_in}
use Rattle.site_state.specs.Passes.{effect_here, applied_unless, site_apply, apply_answer, apply_answer_by, apply_answer_unless}
use Rattle.event_laws.specs.Confluence.{applied_in_turn, AreReadyInTurn}
use Rattle.event_laws.proofs.MasterArrivals.{IsReadyAt, ready_at}
use Rattle.txn_apply.specs.declared.outcome.Outcome.{Outcome}
use Rattle.txn_apply.specs.Works.{WorkState}
use Rattle.txn_apply.specs.Laws.{SupportOutlastsIndependentTransactions}
use Rattle.site_engine.specs.Working.{IsWorkOf, EndsHere, HoldsWhereAlike}
use Rattle.site_engine.proofs.Beginning.{outcomes_hold}
use Rattle.parallel_apply.specs.Turns.{positions_of, site_after_crew}
use Rattle.parallel_apply.specs.Crews.{is_stale, CrewState, IsCrew, IsOutcomeOf, IsOfEarlierClaim, IsPartlyApplied}
use Rattle.parallel_apply.specs.declared.claim.Evaluated.{Evaluated}
use Rattle.parallel_apply.proofs.TurnLogs.{positions-append}
use Rattle.parallel_apply.proofs.InTurn.{Stays, applied-append, ready-append, ready-behind, stays_itself, stays_in_turn}
use Rattle.parallel_apply.proofs.Outlasting.{all_outlasted}

-- what isn't stale is ready
pub ready_here : (origin : SiteName) (p : ℕ) (x : SiteState) → stale_of origin p x ≡ None → is_ready origin p x ≡ true
ready_here origin p x fresh = rw fresh refl

fresh_where_ready : (origin : SiteName) (p : ℕ) (x : SiteState) → is_ready origin p x ≡ true → stale_of origin p x ≡ None
fresh_where_ready origin p x ready = go (stale_of origin p x) refl ready
  where
    go : (why : Option Why) → stale_of origin p x ≡ why → is_none why ≡ true → stale_of origin p x ≡ None
    go None is ready = is
    go (Some w) is ready = absurd (cc ready)

-- what became of a position tells whether it was ready
pub ready_by_answer : (origin : SiteName) (p : ℕ) (x : SiteState) → not (is_stale (apply_answer origin p x)) ≡ is_ready origin p x
ready_by_answer origin p x = go (finished origin x.journal p) (arrived_at origin p x.senders)
  where
    by : (a : Arrival) (r : Result _ _) → not (is_stale (apply_answer_by r)) ≡ true
    by a (Ok effect) = refl
    by a (Err failure) = refl

    due : (b : Bool) (a : Arrival) → not (is_stale (apply_answer_unless (cond b None (Some why.NotReady)) origin (Some a) x)) ≡ is_none (cond b None (Some why.NotReady))
    due true a = by a (effect_here origin a x)
    due false a = refl

    go : (b : Bool) (found : Option Arrival) → not (is_stale (apply_answer_unless (cond b (Some why.Finished) (stale_found origin x found)) origin found x)) ≡ is_none (cond b (Some why.Finished) (stale_found origin x found))
    go true found = refl
    go false None = refl
    go false (Some a) = due (is_due origin x a) a

-- where it wasn't, nothing changed
pub stays_where_stale : (origin : SiteName) (p : ℕ) (x : SiteState) → is_ready origin p x ≡ false → site_apply origin p x ≡ x
stays_where_stale origin p x stale = go (stale_of origin p x) stale
  where
    go : (why : Option Why) → is_none why ≡ false → applied_unless why origin (arrived_at origin p x.senders) x ≡ x
    go None is = absurd (cc is)
    go (Some w) is = refl

-- the least ready position is ready
pub first_is_ready : (origin : SiteName) (above : ℕ) (x : SiteState) (arrived : List Arrival) (p : ℕ) → first_ready_in origin above x arrived ≡ Some p → stale_of origin p x ≡ None
first_is_ready origin above x [] p is = absurd (cc is)
first_is_ready origin above x (a ∷ arrived) p is = go (nat_lt above a.position) (stale_of origin a.position x) refl is (first_is_ready origin above x arrived p)
  where
    go : (b : Bool) (why : Option Why) → stale_of origin a.position x ≡ why → cond (b && is_none why) (Some a.position) (first_ready_in origin above x arrived) ≡ Some p
        → (first_ready_in origin above x arrived ≡ Some p → stale_of origin p x ≡ None) → stale_of origin p x ≡ None
    go true None fresh is later = let same : a.position ≡ p = cc is in rw (← same) fresh
    go true (Some why) fresh is later = later is
    go false why fresh is later = later is

-- a crew's site is partly applied
pub crew_applied : (c : CrewState) → IsCrew c → IsPartlyApplied c.origin c.opened c.site
crew_applied c is = (positions_of c.turns, is.ready, is.led)

module _ (opened : SiteState) (origin : SiteName) (turns : List (Option ℕ)) (site : SiteState) (is : IsCrew (record { opened = opened; origin = origin; turns = turns; site = site })) where
  -- a turn that applies nothing
  pub with_quiet : (more : List (Option ℕ)) (here : SiteState) → more ≡ turns ++ None ∷ [] → here ≡ site → IsCrew (record { opened = opened; origin = origin; turns = more; site = here })
  with_quiet more here one same =
      let positions : positions_of more ≡ positions_of turns = ap positions_of one ∙ positions-append turns (None ∷ []) ∙ append-nil (positions_of turns) in
      record {
        passes = is.passes;
        ready = subst (λ ps. AreReadyInTurn origin ps opened) (sym positions) is.ready;
        led = same ∙ is.led ∙ ap (λ ps. applied_in_turn origin ps opened) (sym positions);
      }

  -- a turn that applies a position that is ready
  pub with_applied : (more : List (Option ℕ)) (here : SiteState) (p : ℕ) → is_ready origin p site ≡ true → more ≡ turns ++ Some p ∷ [] → here ≡ site_apply origin p site
      → IsCrew (record { opened = opened; origin = origin; turns = more; site = here })
  with_applied more here p ready one applied =
      let positions : positions_of more ≡ positions_of turns ++ p ∷ [] = ap positions_of one ∙ positions-append turns (Some p ∷ []) in
      record {
        passes = is.passes;
        ready = subst (λ ps. AreReadyInTurn origin ps opened) (sym positions)
            (ready-append origin (positions_of turns) (p ∷ []) opened is.ready (subst (λ y. is_ready origin p y ≡ true) is.led ready, tt));
        led = applied ∙ ap (site_apply origin p) is.led ∙ sym (applied-append origin (positions_of turns) (p ∷ []) opened) ∙ ap (λ ps. applied_in_turn origin ps opened) (sym positions);
      }

  stays : Stays origin opened site
  stays = subst (Stays origin opened) (sym is.led) (stays_in_turn origin (positions_of turns) opened)

  pub schema_here : site.schema ≡ opened.schema
  schema_here = stays.schema

  pub sound_here : IsSound site.schema
  sound_here = subst IsSound (sym stays.schema) is.passes.sound

  -- what was evaluated for an earlier claim, of a position that is ready still
  module _ (outlasts : SupportOutlastsIndependentTransactions) (done : Evaluated) (earlier : IsOfEarlierClaim (record { opened = opened; origin = origin; turns = turns; site = site }) done) where
    abbrev before : SiteState
    before = site_after_crew origin earlier.turns opened

    since : List ℕ
    since = positions_of earlier.later

    in_parts : positions_of turns ≡ positions_of earlier.turns ++ positions_of earlier.later
    in_parts = ap positions_of earlier.began ∙ positions-append earlier.turns earlier.later

    here_since : site ≡ applied_in_turn origin (positions_of earlier.later) before
    here_since = is.led ∙ ap (λ ps. applied_in_turn origin ps opened) in_parts ∙ applied-append origin (positions_of earlier.turns) (positions_of earlier.later) opened

    ready_since : AreReadyInTurn origin (positions_of earlier.later) before
    ready_since = ready-behind origin (positions_of earlier.turns) (positions_of earlier.later) opened (subst (λ ps. AreReadyInTurn origin ps opened) in_parts is.ready)

    stays_before : Stays origin opened before
    stays_before = stays_in_turn origin (positions_of earlier.turns) opened

    later_stays : Stays origin before site
    later_stays = subst (Stays origin before) (sym here_since) (stays_in_turn origin (positions_of earlier.later) before)

    at_claim : IsReadyAt origin done.position before
    at_claim = ready_at origin done.position before (ready_here origin done.position before (rw earlier.position earlier.is.ready))

    unfinished : stale_of origin done.position site ≡ None → finished origin (applied_in_turn origin (positions_of earlier.later) before).journal done.position ≡ false
    unfinished fresh = subst (λ (y : SiteState). finished origin y.journal done.position ≡ false) here_since (ready_at origin done.position site (ready_here origin done.position site fresh)).unfinished

    ends_of : stale_of origin done.position site ≡ None → (work : WorkState) (outcome : Outcome) → IsWorkOf origin done.position before work → HoldsWhereAlike work outcome.ending → EndsHere origin done.position site outcome.ending
    ends_of fresh work outcome of holds = outcomes_hold origin done.position before site work outcome.ending of holds later_stays.schema (ap (arrived_at origin done.position) later_stays.senders)
        (subst (λ (y : SiteState). Rattle.txn_apply.specs.Works.Supports work (Rattle.site_state.specs.Contents.content_of y)) (sym here_since)
        (all_outlasted origin opened is.passes outlasts done.position before stays_before at_claim work (of.schema_is ∙ stays_before.schema) (of.txn_is at_claim.arrival at_claim.there)
        (positions_of earlier.later) before (stays_itself origin before) ready_since (unfinished fresh) of.supports))

    by_work : stale_of origin done.position site ≡ None → (found : Option WorkState) (outcome : Option Outcome) → IfSome found (IsWorkOf origin done.position before) → IsOutcomeOf found outcome → IfSome outcome (λ (o : Outcome). EndsHere origin done.position site o.ending)
    by_work fresh None None work of = tt
    by_work fresh None (Some o) work of = absurd of
    by_work fresh (Some w) None work of = absurd of
    by_work fresh (Some w) (Some o) work of = ends_of fresh w o work of.2

    pub ends_here : stale_of origin done.position site ≡ None → IfSome done.outcome (λ (outcome : Outcome). EndsHere origin done.position site outcome.ending)
    ends_here fresh = by_work fresh earlier.claim.work done.outcome (rw earlier.position earlier.is.work) earlier.outcome

    of_work : (found : Option WorkState) (outcome : Option Outcome) → IfSome found (IsWorkOf origin done.position before) → IsOutcomeOf found outcome
        → IfSome outcome (λ (o : Outcome). (o.origin ≡ origin) × (o.position ≡ done.position))
    of_work None None work of = tt
    of_work None (Some o) work of = absurd of
    of_work (Some w) None work of = absurd of
    of_work (Some w) (Some o) work of = (of.0 ∙ work.origin_is, of.1 ∙ work.position_is)

    pub outcome_is : IfSome done.outcome (λ (outcome : Outcome). (outcome.origin ≡ origin) × (outcome.position ≡ done.position))
    outcome_is = of_work earlier.claim.work done.outcome (rw earlier.position earlier.is.work) earlier.outcome
