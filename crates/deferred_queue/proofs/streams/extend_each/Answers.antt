use Rattle.std.proofs.Common.{◌-◌}
use Rattle.rep_lists.proofs.Each.{each_at}
use Rattle.deferred_queue.specs.QueueState.{FallsFrom, QueueState, held_extended}
use Rattle.rep_lists.proofs.InPlace.{unchanged_yet, changed_more}
use Rattle.deferred_queue.proofs.Room.{room_at}
use Rattle.deferred_queue.proofs.streams.extend_each.Goals as goal

pub extend-requires-clause-room : goal.extend-requires-clause-room
extend-requires-clause-room c =
    let initial = c.args.streams.now in
    let place = c.loop-stream.stream-index in
    rw (c.loop-stream.invariant, unchanged_yet (held_extended c.args.to.now c.args.number) initial place c.stream-item.result c.loop-stream-test.true)
    (room_at 1 initial place c.stream-item.result c.loop-stream-test.true c.requires.room)

pub extend-requires-clause-later : goal.extend-requires-clause-later
extend-requires-clause-later c =
    let initial = c.args.streams.now in
    let place = c.loop-stream.stream-index in
    rw (c.loop-stream.invariant, unchanged_yet (held_extended c.args.to.now c.args.number) initial place c.stream-item.result c.loop-stream-test.true)
    (each_at (λ (h : QueueState). FallsFrom (c.args.number - 1) h.kept.entries) initial place c.stream-item.result c.loop-stream-test.true c.requires.later)

pub loop-stream-preserved : goal.loop-stream-preserved
loop-stream-preserved c = changed_more (held_extended c.args.to.now c.args.number) c.args.streams.now c.loop-stream.streams c.loop-stream.stream-index c.stream-item.result c.extend.new.self
    c.loop-stream-test.true c.loop-stream.invariant c.extend.ensures
