use Rattle.std.proofs.Common.{◌≡◌, true, false, ◌∙◌, arith}
use Rattle.std.proofs.lemmas.List.{length-set}
use Rattle.change_logs.specs.Logs.{RoomyLog}
use Rattle.change_logs.specs.RoomyNotes.{log_in}
use Rattle.change_logs.proofs.Parts.{part_stays}
use Rattle.change_logs.proofs.Room.{room_kept, room_taken, room_within}
use Rattle.change_logs.proofs.logs.reserve_each.Goals as goal

pub returns-in_err-reserve-clause-succeeds : goal.returns-in_err-reserve-clause-succeeds
returns-in_err-reserve-clause-succeeds c = λ room.
    let within = room_within (λ (l : RoomyLog). l.spare) c.loop-log.logs c.loop-log.log-index c.log-item.result (omega (arith, c.loop-log.invariant.number, c.loop-log-test.true)) c.args.keys in
    let never : false ≡ true = c.in_err-reserve.ensures.succeeds (omega (arith, room, c.loop-log.invariant.room c.args.keys, within)) in
    cc

pub returns-in_err-reserve-clause-logs : goal.returns-in_err-reserve-clause-logs
returns-in_err-reserve-clause-logs c = part_stays log_in c.loop-log.logs c.loop-log.log-index c.log-item.result c.reserve.new.self c.reserve.ensures.log ∙ c.loop-log.invariant.same

pub returns-in_err-reserve-clause-room : goal.returns-in_err-reserve-clause-room
returns-in_err-reserve-clause-room c = λ free. omega (arith, c.loop-log.invariant.room free, room_kept (λ (l : RoomyLog). l.spare) c.loop-log.logs c.loop-log.log-index c.log-item.result c.reserve.new.self free c.reserve.ensures.spare)

pub loop-log-preserved : goal.loop-log-preserved
loop-log-preserved c = record {
  number = length-set c.loop-log.logs c.loop-log.log-index c.reserve.new.self ∙ c.loop-log.invariant.number;
  made = room_taken (λ (l : RoomyLog). l.spare) c.loop-log.logs c.loop-log.log-index c.log-item.result c.reserve.new.self c.args.keys c.in_ok-reserve.ensures.ok c.loop-log.invariant.made;
  same = part_stays log_in c.loop-log.logs c.loop-log.log-index c.log-item.result c.reserve.new.self c.reserve.ensures.log ∙ c.loop-log.invariant.same;
  room = λ free. omega (arith, c.loop-log.invariant.room free, room_kept (λ (l : RoomyLog). l.spare) c.loop-log.logs c.loop-log.log-index c.log-item.result c.reserve.new.self free c.reserve.ensures.spare);
}
