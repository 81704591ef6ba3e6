use Rattle.std.proofs.Common.{◌∙◌, arith}
use Rattle.std.proofs.lemmas.List.{length-set}
use Rattle.change_logs.specs.Noting.{renewed}
use Rattle.change_logs.specs.RoomyNotes.{RoomySnapshot, snapshot_in}
use Rattle.change_logs.proofs.Parts.{part_changes}
use Rattle.change_logs.proofs.Room.{room_kept}
use Rattle.change_logs.proofs.snapshots.renew_each.Goals as goal

pub loop-one-preserved : goal.loop-one-preserved
loop-one-preserved c = record {
  number = length-set c.loop-one.watched c.loop-one.one-index c.renew.new.self ∙ c.loop-one.invariant.number;
  renewed = part_changes snapshot_in (renewed c.args.moment) c.args.watched.now c.loop-one.watched c.loop-one.one-index c.one-item.result c.renew.new.self c.loop-one-test.true c.loop-one.invariant.renewed c.renew.ensures.snapshot;
  room = λ free. omega (arith, c.loop-one.invariant.room free, room_kept (λ (w : RoomySnapshot). w.spare) c.loop-one.watched c.loop-one.one-index c.one-item.result c.renew.new.self free c.renew.ensures.spare);
}
