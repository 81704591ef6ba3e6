use Rattle.std.proofs.Common.{◌∙◌, arith}
use Rattle.deferred_queue.proofs.Room.{least-set, least-take_set, kept_of-set}
use Rattle.deferred_queue.proofs.Sweeping.{swept_of-set}
use Rattle.deferred_queue.proofs.streams.reserve_each.Goals as goal

pub returns-in_err-reserve-clause-kept : goal.returns-in_err-reserve-clause-kept
returns-in_err-reserve-clause-kept c = kept_of-set c.loop-stream.streams c.loop-stream.stream-index c.reserve.new.self c.stream-item.result c.reserve.ensures.kept ∙ c.loop-stream.invariant.kept

pub returns-in_err-reserve-clause-swept : goal.returns-in_err-reserve-clause-swept
returns-in_err-reserve-clause-swept c = swept_of-set c.loop-stream.streams c.loop-stream.stream-index c.reserve.new.self c.stream-item.result c.reserve.ensures.kept c.reserve.ensures.swept ∙ c.loop-stream.invariant.swept

pub returns-in_err-reserve-clause-room : goal.returns-in_err-reserve-clause-room
returns-in_err-reserve-clause-room c = λ free.
    omega (arith, c.loop-stream.invariant.room free, least-set free c.loop-stream.streams c.loop-stream.stream-index c.reserve.new.self c.stream-item.result c.reserve.ensures.room)

pub loop-stream-preserved : goal.loop-stream-preserved
loop-stream-preserved c = record {
  made = least-take_set c.loop-stream.streams c.loop-stream.stream-index c.reserve.new.self c.in_ok-reserve.ensures.ok c.loop-stream.invariant.made;
  kept = kept_of-set c.loop-stream.streams c.loop-stream.stream-index c.reserve.new.self c.stream-item.result c.reserve.ensures.kept ∙ c.loop-stream.invariant.kept;
  swept = swept_of-set c.loop-stream.streams c.loop-stream.stream-index c.reserve.new.self c.stream-item.result c.reserve.ensures.kept c.reserve.ensures.swept ∙ c.loop-stream.invariant.swept;
  room = λ free. omega (arith, c.loop-stream.invariant.room free, least-set free c.loop-stream.streams c.loop-stream.stream-index c.reserve.new.self c.stream-item.result c.reserve.ensures.room);
}
