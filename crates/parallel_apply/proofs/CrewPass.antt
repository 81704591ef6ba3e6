-- A crew's pass, from its beginning to its sorted journal.
use Rattle.std.proofs.Common.{◌≡◌, ℕ, ◌+◌, ◌-◌, ◌<◌, List, [], ◌∷◌, ◌++◌, length, false, None, Some, refl, sym, ap, ◌∙◌, subst, arith}
use Rattle.std.specs.Prelude.{Option, Result, Ok, Err}
use Rattle.rep_values.specs.declared.name.SiteName.{SiteName}
use Rattle.rep_laws.specs.Commuting.{IsSound}
use Rattle.txn_effects.specs.Calls.{Effect}
use Rattle.txn_effects.specs.Transactions.{Failure}
use Rattle.site_state.specs.declared.answers.Why.{Why}
use Rattle.site_state.specs.declared.arrival.Arrival.{Arrival}
use Rattle.site_state.specs.State.{SiteState, arrived_at, arrivals, sender_of, arrived_in}
use Rattle.site_state.specs.Arrivals.{CanPass}
use Rattle.site_state.specs.Ready.{stale_of, is_ready}
use Rattle.site_state.specs.Steps.{begun}
use Rattle.site_state.specs.Passes.{effect_here, finished_by, applied_unless, site_apply, apply_each, site_pass}
use Rattle.event_laws.specs.Confluence.{applied_in_turn, AreReadyInTurn, CanPassInAnyOrder}
use Rattle.event_laws.proofs.PassLaws.{passes_leave_nothing_ready}
use Rattle.journal_sort.specs.Sorting.{CanBeSorted}
use Rattle.site_engine.specs.Ordering.{IsSortedSite}
use Rattle.parallel_apply.specs.Crews.{IsPartlyApplied}
use Rattle.parallel_apply.proofs.InTurn.{applied-append, ready-append, ready_among, each_applied, stays_in_turn}
use Rattle.parallel_apply.proofs.SortedPass.{can_be_sorted, sorted_is_passed}

module _ (origin : SiteName) where
  -- ---- the moment stays

  moment_one : (p : ℕ) (x : SiteState) → (site_apply origin p x).moment ≡ x.moment
  moment_one p x = go (stale_of origin p x) (arrived_at origin p x.senders)
    where
      by : (a : Arrival) (r : Result Effect Failure) → (finished_by origin a r x).moment ≡ x.moment
      by a (Ok effect) = refl
      by a (Err failure) = refl

      go : (stale : Option Why) (found : Option Arrival) → (applied_unless stale origin found x).moment ≡ x.moment
      go (Some why) found = refl
      go None None = refl
      go None (Some a) = by a (effect_here origin a x)

  moment_stays : (ps : List ℕ) (x : SiteState) → (applied_in_turn origin ps x).moment ≡ x.moment
  moment_stays [] x = refl
  moment_stays (p ∷ ps) x = moment_stays ps (site_apply origin p x) ∙ moment_one p x

  -- ---- what the appliers left is applied in rising order

  -- nothing was applied yet
  pub none_applied : (x : SiteState) → IsPartlyApplied origin x x
  none_applied x = ([], tt, refl)

  pub more_applied : (x y z : SiteState) (arrived : List Arrival) → IsPartlyApplied origin x y → z ≡ apply_each origin arrived y → IsPartlyApplied origin x z
  more_applied x y z arrived partly more =
      let rest = each_applied origin arrived y in (
        partly.0 ++ ready_among origin arrived y,
        ready-append origin partly.0 (ready_among origin arrived y) x partly.1 (subst (AreReadyInTurn origin (ready_among origin arrived y)) partly.2 rest.ready),
        more ∙ rest.each ∙ ap (applied_in_turn origin (ready_among origin arrived y)) partly.2 ∙ sym (applied-append origin partly.0 (ready_among origin arrived y) x),
      )

  -- once all that arrived was looked at, none is ready
  none_left : (y : SiteState) → 0 < y.moment → CanPass origin (arrivals origin y) → (position : ℕ) → is_ready origin position (apply_each origin (arrivals origin y) y) ≡ false
  none_left y positive can position =
      let once : y.moment - 1 + 1 ≡ y.moment = omega (arith, positive) in
      subst (λ (z : SiteState). is_ready origin position (apply_each origin (arrivals origin y) z) ≡ false) (λ i. record y { moment = once i })
      (passes_leave_nothing_ready origin (record y { moment = y.moment - 1 }) can position)

  -- ---- the whole

  module _ (x : SiteState) (is : CanPassInAnyOrder origin x) (y z : SiteState) (partly : IsPartlyApplied origin (begun x) y) (rest : z ≡ apply_each origin (arrivals origin y) y) where
    all : IsPartlyApplied origin (begun x) z
    all = more_applied (begun x) y z (arrivals origin y) partly rest

    senders : y.senders ≡ x.senders
    senders = ap (λ (v : SiteState). v.senders) partly.2 ∙ (stays_in_turn origin partly.0 (begun x)).senders

    moment : 0 < y.moment
    moment = let same : y.moment ≡ x.moment + 1 = ap (λ (v : SiteState). v.moment) partly.2 ∙ moment_stays partly.0 (begun x) in omega (arith, same)

    can : CanPass origin (arrivals origin y)
    can = subst (λ ss. CanPass origin (arrived_in (sender_of origin ss))) (sym senders) is.passes

    none : (p : ℕ) → is_ready origin p (applied_in_turn origin all.0 (begun x)) ≡ false
    none p = subst (λ (v : SiteState). is_ready origin p v ≡ false) all.2 (subst (λ (v : SiteState). is_ready origin p v ≡ false) (sym rest) (none_left y moment can p))

    pub sound_then : IsSound z.schema
    sound_then = subst IsSound (sym (ap (λ (v : SiteState). v.schema) all.2 ∙ (stays_in_turn origin all.0 (begun x)).schema)) is.sound

    pub sortable_then : (from : ℕ) → from ≡ length x.journal → CanBeSorted z.schema origin from z.journal
    sortable_then from same = rw same (subst (λ (v : SiteState). CanBeSorted v.schema origin (length x.journal) v.journal) (sym all.2) (can_be_sorted origin x is all.0 all.1))

    -- where its entries are sorted, it is the site after a pass
    pub passed_then : (from : ℕ) (sorted : SiteState) → from ≡ length x.journal → IsSortedSite from z sorted → sorted ≡ site_pass origin x
    passed_then from sorted same done =
        sym done.kept ∙ ap (λ (v : SiteState). record v { journal = sorted.journal }) all.2
        ∙ sorted_is_passed origin x is all.0 all.1 none sorted.journal
        (subst (λ (v : SiteState). Rattle.journal_sort.specs.Sorting.IsSorted (length x.journal) v.journal sorted.journal) all.2 (rw (← same) done.journal))
