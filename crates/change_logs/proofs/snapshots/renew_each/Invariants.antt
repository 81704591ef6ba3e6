-- The snapshots up to the place are refreshed, and no room is given up.
use Rattle.std.proofs.Common.{◌≡◌, ◌≤◌, ℕ, length, ◌++◌, map, take, drop}
use Rattle.change_logs.specs.Noting.{renewed}
use Rattle.change_logs.specs.RoomyNotes.{snapshots_in, snapshot_spares}
use Rattle.rep_lists.specs.Counting.{least}
use Rattle.change_logs.proofs.snapshots.renew_each.Given as goal

abbrev pub invariant-loop-one : goal.invariant-loop-one
invariant-loop-one l = record {
  number : length l.watched ≡ length l.initial.watched;
  renewed : snapshots_in l.watched ≡ map (renewed l.moment) (take l.one-index (snapshots_in l.initial.watched)) ++ drop l.one-index (snapshots_in l.initial.watched);
  room : (free : ℕ) → least free (snapshot_spares l.initial.watched) ≤ least free (snapshot_spares l.watched);
}
