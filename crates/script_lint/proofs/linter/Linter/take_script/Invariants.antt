-- The lines to come lead where all lead.
use Rattle.std.proofs.Common.{◌≡◌, ◌≤◌, length}
use Rattle.script_steps.specs.Lines.{lines_of}
use Rattle.script_lint.specs.Checking.{checked_from}
use Rattle.script_lint.proofs.linter.Linter.take_script.Given as goal

abbrev pub invariant-loop-left : goal.invariant-loop-left
invariant-loop-left l = record {
  few : l.number ≤ 200001;
  lead : checked_from l.number (lines_of l.left) l.self ≡ checked_from 1 (lines_of l.fn.script) l.fn.self;
}

abbrev pub decreases-loop-left : goal.decreases-loop-left
decreases-loop-left l = length l.left
