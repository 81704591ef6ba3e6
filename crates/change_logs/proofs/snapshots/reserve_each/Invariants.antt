-- The snapshots up to the place have room, and they are as they were.
use Rattle.std.proofs.Common.{◌≡◌, ◌≤◌, ℕ, length, take}
use Rattle.change_logs.specs.RoomyNotes.{snapshots_in, snapshot_spares}
use Rattle.rep_lists.specs.Counting.{least}
use Rattle.change_logs.proofs.snapshots.reserve_each.Given as goal

abbrev pub invariant-loop-one : goal.invariant-loop-one
invariant-loop-one l = record {
  number : length l.watched ≡ length l.initial.watched;
  made : l.keys ≤ least l.keys (take l.one-index (snapshot_spares l.watched));
  same : snapshots_in l.watched ≡ snapshots_in l.initial.watched;
  room : (free : ℕ) → least free (snapshot_spares l.initial.watched) ≤ least free (snapshot_spares l.watched);
}
