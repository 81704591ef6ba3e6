use Rattle.std.proofs.Common.{reverse, sym, ◌∙◌}
use Rattle.deferred_queue.specs.QueueState.{kept_of}
use Rattle.deferred_queue.proofs.QueuedTxns.{stream_to-kept}
use Rattle.deferred_queue.proofs.queue.Queue.last.Goals as goal

pub returns : goal.returns
returns c =
    let found = rw c.deref.ensures.value at c.last_to.ensures in
    rw (← c.self.view_is) (found ∙ sym (stream_to-kept c.args.to.now c.self.inside.count (kept_of c.self.inside.streams.items) (reverse c.self.inside.cargoes.items) c.self.invariant.streams_are).same_length)
