-- The snapshots so far.
use Rattle.std.proofs.Common.{◌≡◌}
use Rattle.change_logs.specs.RoomyNotes.{snapshots_in}
use Rattle.change_logs.proofs.snapshots.watch_each.Given as goal

abbrev pub invariant-loop-snapshot : goal.invariant-loop-snapshot
invariant-loop-snapshot l = snapshots_in l.watched.items ≡ l.yielded
