use Rattle.deferred_queue.specs.QueueState.{held_swept}
use Rattle.rep_lists.proofs.InPlace.{changed_more}
use Rattle.deferred_queue.proofs.streams.sweep_each.Goals as goal

pub loop-stream-preserved : goal.loop-stream-preserved
loop-stream-preserved c = changed_more held_swept c.args.streams.now c.loop-stream.streams c.loop-stream.stream-index c.stream-item.result c.sweep.new.self
    c.loop-stream-test.true c.loop-stream.invariant c.sweep.ensures
