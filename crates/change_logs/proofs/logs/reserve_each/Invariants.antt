-- The logs up to the place have room, and they are as they were.
use Rattle.std.proofs.Common.{◌≡◌, ◌≤◌, ℕ, length, take}
use Rattle.change_logs.specs.RoomyNotes.{logs_in, log_spares}
use Rattle.rep_lists.specs.Counting.{least}
use Rattle.change_logs.proofs.logs.reserve_each.Given as goal

abbrev pub invariant-loop-log : goal.invariant-loop-log
invariant-loop-log l = record {
  number : length l.logs ≡ length l.initial.logs;
  made : l.keys ≤ least l.keys (take l.log-index (log_spares l.logs));
  same : logs_in l.logs ≡ logs_in l.initial.logs;
  room : (free : ℕ) → least free (log_spares l.initial.logs) ≤ least free (log_spares l.logs);
}
