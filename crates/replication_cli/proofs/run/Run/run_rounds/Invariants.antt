-- The run so far, with the rounds that are left, is that of all of them.
use Rattle.std.proofs.Common.{◌≡◌, ◌≤◌, ◌+◌, ◌-◌, ◌*◌}
use Rattle.storm_script.specs.Rounds.{storm_rounds}
use Rattle.replication_cli.specs.Runs.{with_commands}
use Rattle.replication_cli.proofs.run.Run.run_rounds.Given as goal

abbrev pub invariant-loop-before : goal.invariant-loop-before
invariant-loop-before g l = record {
  run : with_commands l.self (storm_rounds (l.count - l.before) (l.before + 1) l.draws.state) ≡ with_commands l.initial.self (storm_rounds l.count 1 l.seed);
  number : l.self.number ≤ l.initial.self.number + 5 * l.before;
}
