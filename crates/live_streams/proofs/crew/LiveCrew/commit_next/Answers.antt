use Rattle.std.proofs.Common.{◌≡◌, suc, ◌+◌, ◌<◌, Some, refl, slice_get, slice_index_or, arith}
use Rattle.live_laws.specs.Turns.{block_of}
use Rattle.live_streams.proofs.Quiet.{got_at, place_within}
use Rattle.live_streams.proofs.Crews.{with_block, block_at_places}
use Rattle.live_streams.proofs.crew.LiveCrew.commit_next.Goals as goal

pub invariant_of-self-2 : goal.invariant_of-self-2
invariant_of-self-2 g c =
    let place = c.args.place in
    let done = slice_index_or c.self.inside.next place 0 in
    let session = c.in-Some.session.now in
    let block = c.in-Some-get.block.now in
    let there : slice_get c.self.inside.sessions place ≡ Some session = rw (← c.as_slice.ensures) (got_at _ _ _ c.in-Some.ensures.lookup.3.0 c.in-Some.ensures.lookup.1) in
    let within : place < 8 = omega (arith, place_within c.self.inside.sessions place session there, c.self.invariant.few) in
    let found : block_of (suc place) (suc done) c.self.inside.sessions ≡ Some block = block_at_places c.self.inside.sessions place done session block there
    (rw (← c.as_slice-2.ensures) (got_at _ _ _ c.in-Some-get.ensures.lookup.3.0 c.in-Some-get.ensures.lookup.1)) in
    with_block _ _ _ _ _ _ c.self.invariant place done block within refl found _ _ _ _ _ (place + 1) (done + 1) c.in_ok-reply.reply c.deref_mut.ensures.value c.reserve.ensures.items
    (omega arith) (omega arith) c.in_ok-reply.ensures.reply c.push_reserved.ensures.items refl c.in_ok-reply.ensures.ok
