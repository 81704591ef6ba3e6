-- The changed rows are noted in the logs up to the place, and no more room is used there than by one key for each.
use Rattle.std.proofs.Common.{◌≡◌, ◌≤◌, ℕ, ◌++◌, length, map, take, drop}
use Rattle.change_logs.specs.Noting.{logged_in}
use Rattle.change_logs.specs.RoomyNotes.{logs_in, log_spares}
use Rattle.rep_lists.specs.Counting.{least}
use Rattle.change_logs.proofs.Room.{raised}
use Rattle.change_logs.proofs.logs.note_each.Given as goal

abbrev pub invariant-loop-log : goal.invariant-loop-log
invariant-loop-log l = record {
  number : length l.logs ≡ length l.initial.logs;
  noted : logs_in l.logs ≡ map (logged_in l.schema l.moment l.changes) (take l.log-index (logs_in l.initial.logs)) ++ drop l.log-index (logs_in l.initial.logs);
  room : (free : ℕ) → least free (log_spares l.initial.logs) ≤ least free (raised (length l.changes) l.log-index (log_spares l.logs));
}
