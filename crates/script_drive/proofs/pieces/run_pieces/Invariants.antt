use Rattle.std.proofs.Common.{◌≤◌, ◌+◌, List, ℕ, length}
use Rattle.std.specs.Io.KnownBytes.{Consumes}
use Rattle.script_drive.specs.Halts.{progress}
use Rattle.script_drive.specs.declared.run.TheConstants.{MOST_PROGRESS}
use Rattle.script_drive.proofs.DriveLemmas.{RunsSoFar}
use Rattle.script_drive.proofs.pieces.run_pieces.Given as goal

abbrev pub invariant-loop : goal.invariant-loop
invariant-loop g l = record {
  so_far : (read : List ℕ) × Consumes (g.R.Reader.left l.initial.source) (g.R.Reader.left l.source) read × (l.counter ≤ length read) × (1025 + length read ≤ progress l.run)
      × RunsSoFar g.X.LineRunner.step g.X.LineRunner.allowed g.X.LineRunner.known (l.initial.run.state) (g.R.Reader.left l.initial.source)
      (g.K.Sink.taken l.initial.sink) (g.K.Sink.taken l.sink) (g.R.Reader.reads l.initial.reader) (g.R.Reader.reads l.reader) read l.run;
  known : g.X.LineRunner.known l.run.state;
  within : progress l.run ≤ MOST_PROGRESS;
  reads : g.R.Reader.faults l.initial.source ≤ g.R.Reader.faults l.source;
  writes : g.K.Sink.faults l.initial.sink ≤ g.K.Sink.faults l.sink;
}
