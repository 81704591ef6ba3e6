-- Looking for a snapshot of which the log is too young.
use Rattle.std.proofs.Common.{◌≡◌, drop}
use Rattle.world_state.specs.Refusals.{young_step}
use Rattle.world.proofs.refresh_refusals.young_step.Given as goal

-- those so far hinder nothing
abbrev pub invariant-loop-place : goal.invariant-loop-place
invariant-loop-place l = young_step l.logs.logs (drop l.place l.snapshots.snapshots) ≡ young_step l.logs.logs l.snapshots.snapshots
