-- Looking for a snapshot with a parent.
use Rattle.std.proofs.Common.{drop}
use Rattle.site_events.specs.Rules.{HaveNoParents}
use Rattle.world_commands.proofs.ruled.have_parents.Given as goal

-- those so far have none
abbrev pub invariant-loop-place : goal.invariant-loop-place
invariant-loop-place l = HaveNoParents (drop l.place l.snapshots.snapshots) → HaveNoParents l.snapshots.snapshots
