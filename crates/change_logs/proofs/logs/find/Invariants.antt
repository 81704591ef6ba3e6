-- The log is among those that are left.
use Rattle.std.proofs.Common.{◌≡◌, drop}
use Rattle.change_logs.specs.Noting.{log_of}
use Rattle.change_logs.specs.RoomyNotes.{logs_in}
use Rattle.change_logs.proofs.logs.find.Given as goal

abbrev pub invariant-loop-log : goal.invariant-loop-log
invariant-loop-log l = log_of l.table (logs_in (drop l.log-index l.logs)) ≡ log_of l.table (logs_in l.logs)
