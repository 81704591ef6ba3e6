use Rattle.std.proofs.Common.{reverse, refl}
use Rattle.deferred_queue.specs.QueueState.{kept_of}
use Rattle.deferred_queue.proofs.Found.{acked_by-within}
use Rattle.deferred_queue.proofs.QueuedTxns.{stream_to-kept}
use Rattle.deferred_queue.proofs.queue.Queue.waiting.Goals as goal

pub overflow_sub-result : goal.overflow_sub-result
overflow_sub-result c =
    let last = rw c.deref.ensures.value at c.last_to.ensures in
    let acked = rw c.deref-2.ensures.value at c.acked_to.ensures in
    rw (last, acked) (acked_by-within c.args.to.now c.self.inside.count (kept_of c.self.inside.streams.items) c.self.invariant.streams_are.each)

pub returns : goal.returns
returns c =
    let last = rw c.deref.ensures.value at c.last_to.ensures in
    let acked = rw c.deref-2.ensures.value at c.acked_to.ensures in
    let same = stream_to-kept c.args.to.now c.self.inside.count (kept_of c.self.inside.streams.items) (reverse c.self.inside.cargoes.items) c.self.invariant.streams_are in
    rw (last, acked, ← c.self.view_is, same.same_length) refl
