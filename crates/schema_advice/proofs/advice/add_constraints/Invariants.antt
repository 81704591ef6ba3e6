-- The remarks so far and those of the constraints to come are all.
use Rattle.std.proofs.Common.{◌≡◌, ◌++◌, drop}
use Rattle.schema_advice.specs.Remarks.{constraint_remarks}
use Rattle.schema_advice.proofs.advice.add_constraints.Given as goal

abbrev pub invariant-loop-place : goal.invariant-loop-place
invariant-loop-place l = l.found.items ++ constraint_remarks l.place (drop l.place l.constraints) ≡ l.fn.found.items ++ constraint_remarks 0 l.constraints
