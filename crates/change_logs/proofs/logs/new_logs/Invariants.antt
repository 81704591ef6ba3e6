-- A log for each table so far.
use Rattle.std.proofs.Common.{◌≡◌, take, map}
use Rattle.change_logs.specs.LogState.{new_log}
use Rattle.change_logs.specs.RoomyNotes.{logs_in}
use Rattle.change_logs.proofs.logs.new_logs.Given as goal

abbrev pub invariant-loop-table : goal.invariant-loop-table
invariant-loop-table l = logs_in l.logs.items ≡ map new_log (take l.table-index l.tables)
