-- The rows so far are those of the IDs so far.
use Rattle.std.proofs.Common.{◌≡◌, ◌++◌}
use Rattle.storm_script.specs.Opening.{row_lines}
use Rattle.storm_script.proofs.first.add_rows.Given as goal

abbrev pub invariant-loop-id : goal.invariant-loop-id
invariant-loop-id l = l.commands.items ≡ l.initial.commands.items ++ row_lines l.id
