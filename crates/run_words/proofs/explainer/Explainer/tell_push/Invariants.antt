-- What was told and what is left are all.
use Rattle.std.proofs.Common.{◌≡◌, ◌++◌, length}
use Rattle.run_words.proofs.explainer.Explainer.tell_push.Given as goal

abbrev pub invariant-loop-left : goal.invariant-loop-left
invariant-loop-left l = l.told ++ l.left ≡ l.fn.told ++ l.bytes

abbrev pub decreases-loop-left : goal.decreases-loop-left
decreases-loop-left l = length l.left
