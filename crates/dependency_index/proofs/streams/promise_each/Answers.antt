use Rattle.rep_lists.proofs.InPlace.{changed_more}
use Rattle.dependency_index.specs.Columns.{promised}
use Rattle.dependency_index.proofs.streams.promise_each.Goals as goal

pub loop-stream-preserved : goal.loop-stream-preserved
loop-stream-preserved c = changed_more (promised c.args.size) c.args.streams.now c.loop-stream.streams c.loop-stream.stream-index c.stream-item.result c.promise.new.self
    c.loop-stream-test.true c.loop-stream.invariant c.promise.ensures
