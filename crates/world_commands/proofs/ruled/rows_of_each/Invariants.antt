-- Copying what snapshots show, one by one.
use Rattle.std.proofs.Common.{◌≡◌, ◌++◌, drop}
use Rattle.site_events.specs.Rules.{rows_ruled}
use Rattle.world_commands.proofs.ruled.rows_of_each.Given as goal

-- what those so far show, and what those to come show
abbrev pub invariant-loop-place : goal.invariant-loop-place
invariant-loop-place l = l.shown ++ rows_ruled l.master.schema l.master.tables (drop l.place l.snapshots.snapshots) ≡ rows_ruled l.master.schema l.master.tables l.snapshots.snapshots
