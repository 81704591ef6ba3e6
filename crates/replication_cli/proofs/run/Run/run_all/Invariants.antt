-- The run so far is that of the commands so far.
use Rattle.std.proofs.Common.{◌≡◌, ◌+◌, take}
use Rattle.replication_cli.specs.Runs.{with_commands}
use Rattle.replication_cli.proofs.run.Run.run_all.Given as goal

abbrev pub invariant-loop-command : goal.invariant-loop-command
invariant-loop-command g l = record {
  run : l.self ≡ with_commands l.initial.self (take l.command-index l.commands);
  number : l.self.number ≡ l.initial.self.number + l.command-index;
}
