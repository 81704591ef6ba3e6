-- What was evaluated on the rows of a site holds as long as its position isn't finished, whatever the crew applies meanwhile.
use Rattle.std.proofs.Common.{◌≡◌, ◌≢◌, ℕ, ◌<◌, ◌≤◌, List, [], ◌∷◌, Bool, true, false, Some, refl, sym, ap, ◌∙◌, subst, arith, inl, inr}
use Rattle.std.specs.Prelude.{nat_le}
use Rattle.std.specs.List.{list_all}
use mathlib.Core.Logic.{◌⊎◌}
use Rattle.std.proofs.lemmas.Bool.Decides.{nat_tests}
use Rattle.rep_values.specs.declared.name.SiteName.{SiteName}
use Rattle.conflict_detect.specs.Fits.{TxnFits}
use Rattle.txn_effects.specs.Contents.{Content}
use Rattle.dependency_index.specs.Tokens.{txn_tokens, AreIndependent}
use Rattle.site_state.specs.declared.arrival.Arrival.{Arrival}
use Rattle.site_state.specs.State.{SiteState, arrived_at, arrivals}
use Rattle.rep_schema.specs.Sites.{is_master_site}
use Rattle.site_state.specs.Journal.{finished, low_water}
use Rattle.site_state.specs.Contents.{content_of}
use Rattle.site_state.specs.Streams.{shares}
use Rattle.site_state.specs.Ready.{is_covered}
use Rattle.site_state.specs.Passes.{site_apply}
use Rattle.site_state.proofs.LowWater.{low_water-below}
use Rattle.site_state.proofs.Stepping.{arrived_has}
use Rattle.event_laws.specs.Confluence.{applied_in_turn, AreReadyInTurn, CanPassInAnyOrder}
use Rattle.site_state.proofs.Waited.{and_both, found_holds}
use Rattle.event_laws.proofs.MasterArrivals.{IsReadyAt, ready_at}
use Rattle.txn_apply.specs.Works.{WorkState, Supports}
use Rattle.txn_apply.specs.Laws.{SupportOutlastsIndependentTransactions}
use Rattle.parallel_apply.proofs.Sharing.{share_token-either_way}
use Rattle.parallel_apply.proofs.InTurn.{Stays, stays_one, stays_then, stays_in_turn, applied_finished, content_applied}

pub three_ways : (a b : ℕ) → (a < b) ⊎ ((b < a) ⊎ (a ≡ b))
three_ways a b = grind arith

pub off_and_on : (b : Bool) → b ≡ true → b ≡ false → ⊥
off_and_on true on off = absurd (cc off)
off_and_on false on off = absurd (cc on)

module _ (origin : SiteName) (start : SiteState) (is : CanPassInAnyOrder origin start) where
  pub there_at_start : (p : ℕ) (x : SiteState) (a : Arrival) → Stays origin start x → arrived_at origin p x.senders ≡ Some a → arrived_at origin p start.senders ≡ Some a
  there_at_start p x a stays there = ap (arrived_at origin p) (sym stays.senders) ∙ there

  -- a position that arrived is above 0
  pub from_one : (p : ℕ) (a : Arrival) → arrived_at origin p start.senders ≡ Some a → 0 < p
  from_one p a there = omega (arith, found_holds (λ (b : Arrival). b.dep < b.position) p (arrivals origin start) a is.passes.earlier there, arrived_has origin p start a there)

  -- all that a ready position depends on is finished
  pub depends_finished : (p q : ℕ) (x : SiteState) → 0 < q → (at : IsReadyAt origin p x) → q ≤ at.arrival.dep → finished origin x.journal q ≡ true
  depends_finished p q x positive at up_to =
      let both = and_both (nat_le at.arrival.dep (low_water origin x.journal)) (list_all (is_covered x) at.arrival.past) at.due in
      let low : at.arrival.dep ≤ low_water origin x.journal = grind (arith, nat_tests, both.0) in
      low_water-below origin x.journal q positive (omega (arith, up_to, low))

  -- where one position is ready, and another one later while the first isn't finished, their transactions share no token
  independent : (p q : ℕ) (x y : SiteState) → Stays origin start x → Stays origin x y → (at : IsReadyAt origin p x) (other : IsReadyAt origin q y) → finished origin y.journal p ≡ false → p ≢ q
      → AreIndependent start.schema at.arrival.txn other.arrival.txn
  independent p q x y stays later at other unfinished differ = go (shares start.schema at.arrival.txn other.arrival.txn) refl
    where
      there_p : arrived_at origin p start.senders ≡ Some at.arrival
      there_p = there_at_start p x at.arrival stays at.there

      there_q : arrived_at origin q start.senders ≡ Some other.arrival
      there_q = there_at_start q y other.arrival (stays_then origin start x y stays later) other.there

      none : (s : (p < q) ⊎ ((q < p) ⊎ (p ≡ q))) → shares start.schema at.arrival.txn other.arrival.txn ≡ true → ⊥
      none (inl less) shared =
          let turned = share_token-either_way (txn_tokens start.schema at.arrival.txn) (txn_tokens start.schema other.arrival.txn) shared in
          let above = is.numbered p q at.arrival other.arrival there_p there_q less turned in
          off_and_on _ (depends_finished q p y (from_one p at.arrival there_p) other above) unfinished
      none (inr (inl less)) shared =
          let above = is.numbered q p other.arrival at.arrival there_q there_p less shared in
          off_and_on _ (later.finished_stay q (depends_finished p q x (from_one q other.arrival there_q) at above)) other.unfinished
      none (inr (inr same)) shared = differ same

      go : (b : Bool) → shares start.schema at.arrival.txn other.arrival.txn ≡ b → b ≡ false
      go false shared = refl
      go true shared = absurd (none (three_ways p q) shared)

  module _ (outlasts : SupportOutlastsIndependentTransactions) (p : ℕ) (x : SiteState) (stays : Stays origin start x) (at : IsReadyAt origin p x)
      (work : WorkState) (schema_is : work.schema ≡ start.schema) (txn_is : work.txn ≡ at.arrival.txn) where
    -- another position is applied, and this one isn't finished by it
    one_outlasted : (q : ℕ) (y : SiteState) → Stays origin x y → IsReadyAt origin q y → finished origin (site_apply origin q y).journal p ≡ false → Supports work (content_of y)
        → Supports work (content_of (site_apply origin q y))
    one_outlasted q y later other unfinished supports =
        subst (Supports work) (sym (content_applied origin q y master other ∙ ap (λ s. Rattle.txn_effects.specs.Contents.content_after s origin other.arrival.txn (content_of y)) (whole.schema ∙ sym schema_is)))
        (outlasts work origin other.arrival.txn (content_of y) (subst Rattle.rep_laws.specs.Commuting.IsSound (sym schema_is) is.sound) fits apart supports)
      where
        whole : Stays origin start y
        whole = stays_then origin start x y stays later

        master : is_master_site y.schema origin ≡ true
        master = ap (λ s. is_master_site s origin) whole.schema ∙ is.master

        fits : TxnFits work.schema other.arrival.txn
        fits = subst (λ s. TxnFits s other.arrival.txn) (sym schema_is)
            (found_holds (λ (a : Arrival). TxnFits start.schema a.txn) q (arrivals origin start) other.arrival is.fits (there_at_start q y other.arrival whole other.there))

        before : (b : Bool) → finished origin y.journal p ≡ b → b ≡ false
        before false off = refl
        before true on = absurd (off_and_on _ ((stays_one origin q y).finished_stay p on) unfinished)

        differ : p ≢ q
        differ same = off_and_on _ (subst (λ r. finished origin (site_apply origin q y).journal r ≡ true) (sym same) (applied_finished origin q y other)) unfinished

        apart : AreIndependent work.schema work.txn other.arrival.txn
        apart = rw (schema_is, txn_is) (independent p q x y stays later at other (before _ refl) differ)

    -- positions are applied one after the other, and this one isn't finished by any
    pub all_outlasted : (qs : List ℕ) (y : SiteState) → Stays origin x y → AreReadyInTurn origin qs y → finished origin (applied_in_turn origin qs y).journal p ≡ false → Supports work (content_of y)
        → Supports work (content_of (applied_in_turn origin qs y))
    all_outlasted [] y later ready unfinished supports = supports
    all_outlasted (q ∷ qs) y later ready unfinished supports =
        all_outlasted qs (site_apply origin q y) (stays_then origin x y (site_apply origin q y) later (stays_one origin q y)) ready.1 unfinished
        (one_outlasted q y later (ready_at origin q y ready.0) (before _ refl) supports)
      where
        before : (b : Bool) → finished origin (site_apply origin q y).journal p ≡ b → b ≡ false
        before false off = refl
        before true on = absurd (off_and_on _ ((stays_in_turn origin qs (site_apply origin q y)).finished_stay p on) unfinished)
