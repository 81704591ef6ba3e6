-- Of two positions that share a token the earlier is applied first.
use Rattle.std.proofs.Common.{◌≡◌, ℕ, ◌<◌, ◌≤◌, List, ◌∷◌, Bool, true, false, Some, refl, sym, ap, ◌∙◌, arith, subst, inl, inr}
use Rattle.std.specs.Prelude.{◌⊎◌, nat_le}
use Rattle.std.specs.List.{list_all, list_any}
use Rattle.std.proofs.lemmas.Bool.{and_parts}
use Rattle.std.proofs.lemmas.Bool.Decides.{nat_tests}
use Rattle.rep_values.specs.declared.name.SiteName.{SiteName}
use Rattle.site_state.specs.declared.arrival.Arrival.{Arrival}
use Rattle.site_state.specs.State.{SenderState, SiteState, arrived_at}
use Rattle.rep_schema.specs.Sites.{is_among}
use Rattle.site_state.specs.Journal.{finished, low_water}
use Rattle.site_state.specs.Ready.{is_ready, is_covered}
use Rattle.site_state.proofs.LowWater.{low_water-below}
use Rattle.site_state.proofs.Stepping.{is_position-true}
use Rattle.event_laws.proofs.MasterArrivals.{IsReadyAt, ready_at}
use Rattle.live_laws.specs.declared.turn.LiveTurn.{LiveTurn}
use Rattle.live_laws.specs.declared.turn.LiveTurn.TheVariants.{Applied, Committed}
use Rattle.live_laws.specs.declared.turn.Session.{Session}
use Rattle.live_laws.specs.Turns.{site_after, IsTurn}
use Rattle.live_laws.specs.RunLaws.{applies, EarlierIsAppliedFirst}
use Rattle.live_laws.proofs.Readiness.{Reaches}
use Rattle.live_laws.proofs.FullRuns.{run_goes_on}
use Rattle.live_laws.proofs.RunParts.{run_front, run_back}
use Rattle.live_laws.proofs.RunCounts.{newly_finished_applied}

-- at a turn that applies a position, those up to the one that it depends on are finished
finished_before_turn : (origins : List SiteName) (sessions : List Session) (turn : LiveTurn) (y : SiteState) → IsTurn origins sessions turn y → (origin : SiteName) (q : ℕ) (b : Arrival) → applies origin q turn ≡ true
    → arrived_at origin q y.senders ≡ Some b → (p : ℕ) → 0 < p → p ≤ b.dep → finished origin y.journal p ≡ true
finished_before_turn origins sessions (Committed session block reply) y is origin q b applied there p from_one within = absurd (cc applied)
finished_before_turn origins sessions (Applied o r call error) y is origin q b applied there p from_one within =
    let same = is_position-true origin o q r applied in
    let both = and_parts (nat_le at.arrival.dep (low_water o y.journal)) (list_all (is_covered y) at.arrival.past) at.due in
    let found : Some at.arrival ≡ Some b = sym at.there ∙ ap (λ (n : SiteName). arrived_at n r y.senders) same.0 ∙ ap (λ (n : ℕ). arrived_at origin n y.senders) same.1 ∙ there in
    let one : at.arrival ≡ b = cc found in
    let low : at.arrival.dep ≤ low_water o y.journal = grind (arith, nat_tests, both.0) in
    subst (λ (n : SiteName). finished n y.journal p ≡ true) same.0 (low_water-below o y.journal p from_one (omega (arith, within, low, ap (λ (a : Arrival). a.dep) one)))
  where
    at : IsReadyAt o r y
    at = ready_at o r y (and_parts (is_among origins o) (is_ready o r y) is.may).1

pub earlier_is_applied_first : EarlierIsAppliedFirst
earlier_is_applied_first origins sessions before after turn x run origin p q a b applied numbered at_p at_q from_one less shared =
    go (finished origin x.journal p) refl
  where
    y : SiteState
    y = site_after sessions before x

    goes : Reaches x y
    goes = run_goes_on sessions before x

    there : arrived_at origin q y.senders ≡ Some b
    there = ap (λ (ss : List SenderState). arrived_at origin q ss) goes.senders ∙ at_q

    done : finished origin y.journal p ≡ true
    done = finished_before_turn origins sessions turn y (run_back origins sessions before (turn ∷ after) x run).0 origin q b applied there p from_one (numbered p q a b at_p at_q less shared)

    go : (c : Bool) → finished origin x.journal p ≡ c → (c ≡ true) ⊎ (list_any (applies origin p) before ≡ true)
    go true was = inl refl
    go false was = inr (newly_finished_applied origins sessions before x (run_front origins sessions before (turn ∷ after) x run) origin p was done)
