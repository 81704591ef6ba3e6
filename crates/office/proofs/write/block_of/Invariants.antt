-- The lines in front are a block's.
use Rattle.std.proofs.Common.{length}
use Rattle.office.proofs.StatedLines.{StatedSoFar}
use Rattle.office.proofs.write.block_of.Given as goal

abbrev pub invariant-loop-left : goal.invariant-loop-left
invariant-loop-left l = StatedSoFar l.text l.left l.number l.statements.items

abbrev pub decreases-loop-left : goal.decreases-loop-left
decreases-loop-left l = length l.left
