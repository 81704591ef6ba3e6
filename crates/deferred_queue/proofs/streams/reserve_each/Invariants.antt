-- The streams up to the place have room, and what they hold is as it was.
use Rattle.std.proofs.Common.{◌≡◌, ◌≤◌, ℕ, take}
use Rattle.deferred_queue.specs.QueueState.{kept_of, swept_of, rooms_of}
use Rattle.rep_lists.specs.Counting.{least}
use Rattle.deferred_queue.proofs.streams.reserve_each.Given as goal

abbrev pub invariant-loop-stream : goal.invariant-loop-stream
invariant-loop-stream l = record {
  made : 1 ≤ least 1 (take l.stream-index (rooms_of l.streams));
  kept : kept_of l.streams ≡ kept_of l.initial.streams;
  swept : swept_of l.streams ≡ swept_of l.initial.streams;
  room : (free : ℕ) → least free (rooms_of l.initial.streams) ≤ least free (rooms_of l.streams);
}
