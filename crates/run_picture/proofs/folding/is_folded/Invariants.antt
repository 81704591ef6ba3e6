-- Counting lines one by one.
use Rattle.std.proofs.Common.{◌≤◌}
use Rattle.run_picture.proofs.folding.is_folded.Given as goal

-- no line counts twice
abbrev pub invariant-loop-line : goal.invariant-loop-line
invariant-loop-line l = l.events ≤ l.line-index
