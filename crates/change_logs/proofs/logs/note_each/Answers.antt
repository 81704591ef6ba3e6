use Rattle.std.proofs.Common.{◌∙◌, length, arith}
use Rattle.std.proofs.lemmas.List.{length-set}
use Rattle.change_logs.specs.Noting.{logged_in}
use Rattle.change_logs.specs.Logs.{RoomyLog}
use Rattle.change_logs.specs.RoomyNotes.{log_in, log_spares}
use Rattle.change_logs.proofs.Parts.{part_changes}
use Rattle.change_logs.proofs.Room.{room_used, room_yet, raised-all}
use Rattle.change_logs.proofs.logs.note_each.Goals as goal

pub note_in-requires-clause-room : goal.note_in-requires-clause-room
note_in-requires-clause-room c =
    let used = length c.args.changes.now in
    omega (arith, c.requires.room, c.loop-log.invariant.room used, room_yet (λ (l : RoomyLog). l.spare) c.loop-log.logs c.loop-log.log-index c.log-item.result (omega (arith, c.loop-log.invariant.number, c.loop-log-test.true)) used used)

pub returns-clause-room : goal.returns-clause-room
returns-clause-room c = λ free. omega (arith, c.loop-log.invariant.room free, raised-all free (length c.args.changes.now) (log_spares c.loop-log.logs) c.loop-log.log-index)

pub loop-log-preserved : goal.loop-log-preserved
loop-log-preserved c = record {
  number = length-set c.loop-log.logs c.loop-log.log-index c.note_in.new.log ∙ c.loop-log.invariant.number;
  noted = part_changes log_in (logged_in c.args.schema.now c.args.moment c.args.changes.now) c.args.logs.now c.loop-log.logs c.loop-log.log-index c.log-item.result c.note_in.new.log c.loop-log-test.true c.loop-log.invariant.noted c.note_in.ensures.log;
  room = λ free. omega (arith, c.loop-log.invariant.room free, room_used (λ (l : RoomyLog). l.spare) c.loop-log.logs c.loop-log.log-index c.log-item.result c.note_in.new.log free (length c.args.changes.now) c.note_in.ensures.spare);
}
