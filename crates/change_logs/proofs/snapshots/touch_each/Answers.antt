use Rattle.std.proofs.Common.{◌∙◌, length, arith}
use Rattle.std.proofs.lemmas.List.{length-set}
use Rattle.change_logs.specs.Noting.{touched_in}
use Rattle.change_logs.specs.RoomyNotes.{RoomySnapshot, snapshot_in, snapshot_spares}
use Rattle.change_logs.proofs.Parts.{part_changes}
use Rattle.change_logs.proofs.Room.{room_used, room_yet, raised-all}
use Rattle.change_logs.proofs.snapshots.touch_each.Goals as goal

pub touch_in-requires-clause-room : goal.touch_in-requires-clause-room
touch_in-requires-clause-room c =
    let used = length c.args.changes.now in
    omega (arith, c.requires.room, c.loop-one.invariant.room used, room_yet (λ (w : RoomySnapshot). w.spare) c.loop-one.watched c.loop-one.one-index c.one-item.result (omega (arith, c.loop-one.invariant.number, c.loop-one-test.true)) used used)

pub returns-clause-room : goal.returns-clause-room
returns-clause-room c = λ free. omega (arith, c.loop-one.invariant.room free, raised-all free (length c.args.changes.now) (snapshot_spares c.loop-one.watched) c.loop-one.one-index)

pub loop-one-preserved : goal.loop-one-preserved
loop-one-preserved c = record {
  number = length-set c.loop-one.watched c.loop-one.one-index c.touch_in.new.watched ∙ c.loop-one.invariant.number;
  touched = part_changes snapshot_in (touched_in c.args.schema.now c.args.changes.now) c.args.watched.now c.loop-one.watched c.loop-one.one-index c.one-item.result c.touch_in.new.watched c.loop-one-test.true c.loop-one.invariant.touched c.touch_in.ensures.snapshot;
  room = λ free. omega (arith, c.loop-one.invariant.room free, room_used (λ (w : RoomySnapshot). w.spare) c.loop-one.watched c.loop-one.one-index c.one-item.result c.touch_in.new.watched free (length c.args.changes.now) c.touch_in.ensures.spare);
}
