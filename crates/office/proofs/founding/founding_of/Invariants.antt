-- The lines in front are taken.
use Rattle.std.proofs.Common.{length}
use Rattle.office.proofs.TakenLines.{TakenSoFar}
use Rattle.office.proofs.founding.founding_of.Given as goal

abbrev pub invariant-loop-left : goal.invariant-loop-left
invariant-loop-left l = TakenSoFar l.text l.left l.number l.founding

abbrev pub decreases-loop-left : goal.decreases-loop-left
decreases-loop-left l = length l.left
