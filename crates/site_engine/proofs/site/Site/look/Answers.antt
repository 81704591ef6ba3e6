use Rattle.std.proofs.Common.{refl, sym, arith}
use Rattle.site_engine.proofs.Reading.{no_sender, arrivals_are}
use Rattle.site_engine.proofs.Waiting.{looked_finished, looked_early, looked_uncovered, looked_end, looked_ready}
use Rattle.site_engine.proofs.site.Site.look.Goals as goal

-- who isn't a sender has sent nothing
pub unreachable-requires : goal.unreachable-requires
unreachable-requires g c =
    let none = sym (rw c.deref.ensures.value at c.in_default.ensures) in
    let within = rw (← c.self.view_is, no_sender _ _ _ _ _ _ _ c.self.invariant refl c.args.origin.now none) at c.requires in
    omega (arith, within)

pub arrival_at-arrival-requires : goal.arrival_at-arrival-requires
arrival_at-arrival-requires g c =
    let found = sym (rw c.deref.ensures.value at c.in-Some.ensures) in
    rw (← c.self.view_is, arrivals_are _ _ _ _ _ _ _ c.self.invariant refl c.args.origin.now c.in-Some.inbox.now found) at c.requires

pub returns-then-is_finished : goal.returns-then-is_finished
returns-then-is_finished g c =
    let found = sym (rw c.deref.ensures.value at c.in-Some.ensures) in
    rw (← c.self.view_is) (looked_finished _ _ _ _ _ _ _ c.self.invariant refl c.args.origin.now c.in-Some.inbox.now found c.laws.ensures.rising c.args.place c.arrival_at-arrival.result.now c.arrival_at-arrival.ensures (sym c.if-is_finished.ensures))

pub returns-then-low_water-arrival : goal.returns-then-low_water-arrival
returns-then-low_water-arrival g c =
    let found = sym (rw c.deref.ensures.value at c.in-Some.ensures) in
    rw (← c.self.view_is)
    (looked_early _ _ _ _ _ _ _ c.self.invariant refl c.args.origin.now c.in-Some.inbox.now found c.laws.ensures.rising c.args.place c.arrival_at-arrival.result.now c.arrival_at-arrival.ensures c.low_water.result c.low_water.ensures c.if-low_water-arrival.true)

pub returns-then-is_past_covered : goal.returns-then-is_past_covered
returns-then-is_past_covered g c =
    let found = sym (rw c.deref.ensures.value at c.in-Some.ensures) in
    let covers = rw (← c.self.view_is, c.as_slice.ensures) at (sym c.if-is_past_covered.ensures) in
    rw (← c.self.view_is)
    (looked_ready _ _ _ _ _ _ _ c.self.invariant refl c.args.origin.now c.in-Some.inbox.now found c.laws.ensures.rising c.args.place c.arrival_at-arrival.result.now c.arrival_at-arrival.ensures c.low_water.result c.low_water.ensures (sym c.if-is_finished.ensures) c.if-low_water-arrival.false covers)

pub returns-then-pasts_rise_from-arrival : goal.returns-then-pasts_rise_from-arrival
returns-then-pasts_rise_from-arrival g c =
    let found = sym (rw c.deref.ensures.value at c.in-Some.ensures) in
    let open' = rw (← c.self.view_is, c.as_slice.ensures) at (sym c.if-is_past_covered.ensures) in
    rw (← c.self.view_is)
    (looked_end _ _ _ _ _ _ _ c.self.invariant refl c.args.origin.now c.in-Some.inbox.now found c.laws.ensures.rising c.args.place c.arrival_at-arrival.result.now c.arrival_at-arrival.ensures c.pasts_rise_from.result c.pasts_rise_from.ensures c.if-pasts_rise_from-arrival.true open')

pub returns : goal.returns
returns g c =
    let found = sym (rw c.deref.ensures.value at c.in-Some.ensures) in
    let open' = rw (← c.self.view_is, c.as_slice.ensures) at (sym c.if-is_past_covered.ensures) in
    rw (← c.self.view_is)
    (looked_uncovered _ _ _ _ _ _ _ c.self.invariant refl c.args.origin.now c.in-Some.inbox.now found c.laws.ensures.rising c.args.place c.arrival_at-arrival.result.now c.arrival_at-arrival.ensures open')
