use Rattle.std.proofs.Common.{◌≡◌, Some, slice_get}
use Rattle.live_streams.proofs.Quiet.{got_at, among_at}
use Rattle.live_streams.proofs.Crews.{with_applied}
use Rattle.live_streams.proofs.crew.LiveCrew.apply_next.Goals as goal

pub invariant_of-self-2 : goal.invariant_of-self-2
invariant_of-self-2 g c =
    let origin = c.in-Some.origin.now in
    let found : slice_get c.self.inside.origins c.args.place ≡ Some origin = rw (← c.as_slice.ensures) (got_at _ _ _ c.in-Some.ensures.lookup.3.0 c.in-Some.ensures.lookup.1) in
    with_applied _ _ _ _ _ _ c.self.invariant origin c.in-Some-lowest_ready.position _ _ _ _ _ (among_at c.self.inside.origins c.args.place origin found)
    (rw c.deref.ensures at c.in-Some-lowest_ready.ensures.ready) c.deref_mut.ensures.value c.reserve.ensures.items c.in_ok-turn.ensures.turn c.push_reserved.ensures.items c.in_ok-turn.ensures.ok
