-- The logs of the table up to the place are purged, and no room is given up.
use Rattle.std.proofs.Common.{◌≡◌, ◌≤◌, ℕ, length, ◌++◌, map, take, drop}
use Rattle.change_logs.specs.LogState.{purged_where}
use Rattle.change_logs.specs.RoomyNotes.{logs_in, log_spares}
use Rattle.rep_lists.specs.Counting.{least}
use Rattle.change_logs.proofs.logs.purge_each.Given as goal

abbrev pub invariant-loop-log : goal.invariant-loop-log
invariant-loop-log l = record {
  number : length l.logs ≡ length l.initial.logs;
  purged : logs_in l.logs ≡ map (purged_where l.table l.moment) (take l.log-index (logs_in l.initial.logs)) ++ drop l.log-index (logs_in l.initial.logs);
  room : (free : ℕ) → least free (log_spares l.initial.logs) ≤ least free (log_spares l.logs);
}
