use Rattle.std.proofs.Common.{◌≡◌, true, false, ◌∙◌, arith}
use Rattle.std.proofs.lemmas.List.{length-set}
use Rattle.change_logs.specs.RoomyNotes.{RoomySnapshot, snapshot_in}
use Rattle.change_logs.proofs.Parts.{part_stays}
use Rattle.change_logs.proofs.Room.{room_kept, room_taken, room_within}
use Rattle.change_logs.proofs.snapshots.reserve_each.Goals as goal

pub returns-in_err-reserve-clause-succeeds : goal.returns-in_err-reserve-clause-succeeds
returns-in_err-reserve-clause-succeeds c = λ room.
    let within = room_within (λ (w : RoomySnapshot). w.spare) c.loop-one.watched c.loop-one.one-index c.one-item.result (omega (arith, c.loop-one.invariant.number, c.loop-one-test.true)) c.args.keys in
    let never : false ≡ true = c.in_err-reserve.ensures.succeeds (omega (arith, room, c.loop-one.invariant.room c.args.keys, within)) in
    cc

pub returns-in_err-reserve-clause-snapshots : goal.returns-in_err-reserve-clause-snapshots
returns-in_err-reserve-clause-snapshots c = part_stays snapshot_in c.loop-one.watched c.loop-one.one-index c.one-item.result c.reserve.new.self c.reserve.ensures.snapshot ∙ c.loop-one.invariant.same

pub returns-in_err-reserve-clause-room : goal.returns-in_err-reserve-clause-room
returns-in_err-reserve-clause-room c = λ free. omega (arith, c.loop-one.invariant.room free, room_kept (λ (w : RoomySnapshot). w.spare) c.loop-one.watched c.loop-one.one-index c.one-item.result c.reserve.new.self free c.reserve.ensures.spare)

pub loop-one-preserved : goal.loop-one-preserved
loop-one-preserved c = record {
  number = length-set c.loop-one.watched c.loop-one.one-index c.reserve.new.self ∙ c.loop-one.invariant.number;
  made = room_taken (λ (w : RoomySnapshot). w.spare) c.loop-one.watched c.loop-one.one-index c.one-item.result c.reserve.new.self c.args.keys c.in_ok-reserve.ensures.ok c.loop-one.invariant.made;
  same = part_stays snapshot_in c.loop-one.watched c.loop-one.one-index c.one-item.result c.reserve.new.self c.reserve.ensures.snapshot ∙ c.loop-one.invariant.same;
  room = λ free. omega (arith, c.loop-one.invariant.room free, room_kept (λ (w : RoomySnapshot). w.spare) c.loop-one.watched c.loop-one.one-index c.one-item.result c.reserve.new.self free c.reserve.ensures.spare);
}
