-- The changed rows are noted at the snapshots up to the place, and no more room is used there than by one key for each.
use Rattle.std.proofs.Common.{◌≡◌, ◌≤◌, ℕ, ◌++◌, length, map, take, drop}
use Rattle.change_logs.specs.Noting.{touched_in}
use Rattle.change_logs.specs.RoomyNotes.{snapshots_in, snapshot_spares}
use Rattle.rep_lists.specs.Counting.{least}
use Rattle.change_logs.proofs.Room.{raised}
use Rattle.change_logs.proofs.snapshots.touch_each.Given as goal

abbrev pub invariant-loop-one : goal.invariant-loop-one
invariant-loop-one l = record {
  number : length l.watched ≡ length l.initial.watched;
  touched : snapshots_in l.watched ≡ map (touched_in l.schema l.changes) (take l.one-index (snapshots_in l.initial.watched)) ++ drop l.one-index (snapshots_in l.initial.watched);
  room : (free : ℕ) → least free (snapshot_spares l.initial.watched) ≤ least free (raised (length l.changes) l.one-index (snapshot_spares l.watched));
}
