use Rattle.deferred_queue.specs.QueueState.{held_raised}
use Rattle.rep_lists.proofs.InPlace.{changed_more}
use Rattle.deferred_queue.proofs.streams.raise_each.Goals as goal

pub loop-stream-preserved : goal.loop-stream-preserved
loop-stream-preserved c = changed_more (held_raised c.args.site.now c.args.mark) c.args.streams.now c.loop-stream.streams c.loop-stream.stream-index c.stream-item.result c.raise.new.self
    c.loop-stream-test.true c.loop-stream.invariant c.raise.ensures
