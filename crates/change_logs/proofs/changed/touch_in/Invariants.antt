-- Noting the rows that are left leads to what noting all does, and there is room for them.
use Rattle.std.proofs.Common.{◌≡◌, ◌+◌, ◌≤◌, drop}
use Rattle.change_logs.specs.Noting.{touched_in}
use Rattle.change_logs.proofs.changed.touch_in.Given as goal

abbrev pub invariant-loop-change : goal.invariant-loop-change
invariant-loop-change l = record {
  snapshot : touched_in l.schema (drop l.change-index l.changes) l.watched.snapshot ≡ touched_in l.schema l.changes l.initial.watched.snapshot;
  room : l.initial.watched.spare ≤ l.watched.spare + l.change-index;
}
