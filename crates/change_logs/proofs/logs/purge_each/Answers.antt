use Rattle.std.proofs.Common.{◌∙◌, arith}
use Rattle.std.proofs.lemmas.List.{length-set}
use Rattle.change_logs.specs.Logs.{RoomyLog}
use Rattle.change_logs.specs.LogState.{purged_where}
use Rattle.change_logs.specs.RoomyNotes.{log_in}
use Rattle.change_logs.proofs.Parts.{part_changes}
use Rattle.change_logs.proofs.Room.{room_kept}
use Rattle.change_logs.proofs.logs.purge_each.Goals as goal

pub loop-log-preserved : goal.loop-log-preserved
loop-log-preserved c = record {
  number = length-set c.loop-log.logs c.loop-log.log-index c.purge_where.new.log ∙ c.loop-log.invariant.number;
  purged = part_changes log_in (purged_where c.args.table c.args.moment) c.args.logs.now c.loop-log.logs c.loop-log.log-index c.log-item.result c.purge_where.new.log c.loop-log-test.true c.loop-log.invariant.purged c.purge_where.ensures.log;
  room = λ free. omega (arith, c.loop-log.invariant.room free, room_kept (λ (l : RoomyLog). l.spare) c.loop-log.logs c.loop-log.log-index c.log-item.result c.purge_where.new.log free c.purge_where.ensures.spare);
}
