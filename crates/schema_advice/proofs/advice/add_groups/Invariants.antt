-- The remarks so far and those of the groups to come are all.
use Rattle.std.proofs.Common.{◌≡◌, ◌++◌, drop}
use Rattle.schema_advice.specs.Remarks.{groups_remarks}
use Rattle.schema_advice.proofs.advice.add_groups.Given as goal

abbrev pub invariant-loop-place : goal.invariant-loop-place
invariant-loop-place l = l.found.items ++ groups_remarks l.masters l.place (drop l.place l.groups) ≡ l.fn.found.items ++ groups_remarks l.masters 0 l.groups
