use Rattle.std.proofs.Common.{inl, inr}
use Rattle.deferred_queue.proofs.Sweeping.{passed_at, waited_for}
use Rattle.deferred_queue.proofs.span.with_each_acknowledged.Goals as goal

pub loop-stream-preserved : goal.loop-stream-preserved
loop-stream-preserved c =
    let streams = c.args.streams.now in
    let place = c.loop-stream.stream-index in
    let here = c.stream-item.result in
    let more = c.with_acknowledged-span.ensures in
    record {
      covers = λ number waited passed. elim (waited_for number streams place here c.loop-stream-test.true waited) [
        | inl newly ↦ more.covers number (rw c.stream-item.is newly) (rw c.stream-item.is (passed_at number streams place here c.loop-stream-test.true passed)) passed
        | inr before ↦ more.wider number (c.loop-stream.invariant.covers number before passed)
      ];
      wider = λ other covered. more.wider other (c.loop-stream.invariant.wider other covered);
    }
