-- The senders before the place had their turn.
use Rattle.world_calls.proofs.Passing.{PassesSoFar}
use Rattle.world_calls.proofs.applying.apply_calls.Given as goal

abbrev pub invariant-loop-place : goal.invariant-loop-place
invariant-loop-place l = PassesSoFar l.origin l.fn.site l.place l.site
