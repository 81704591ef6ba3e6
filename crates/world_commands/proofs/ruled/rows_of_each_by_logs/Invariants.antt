-- Making what snapshots show by the logs, one by one.
use Rattle.std.proofs.Common.{◌≡◌, ◌+◌, ◌++◌, drop}
use Rattle.std.specs.Prelude.{sum_by}
use Rattle.site_events.specs.Rules.{rows_ruled, looked_up}
use Rattle.world_commands.proofs.ruled.rows_of_each_by_logs.Given as goal

-- what those so far show, and what those to come show; and what is looked up for them
abbrev pub invariant-loop-place : goal.invariant-loop-place
invariant-loop-place l = record {
  shown : l.rows ++ rows_ruled l.own.schema l.master.tables (drop l.place l.snapshots.snapshots) ≡ rows_ruled l.own.schema l.master.tables l.snapshots.snapshots;
  counted : l.looked_up + sum_by (looked_up l.logs.logs) (drop l.place l.snapshots.snapshots) ≡ sum_by (looked_up l.logs.logs) l.snapshots.snapshots;
}
