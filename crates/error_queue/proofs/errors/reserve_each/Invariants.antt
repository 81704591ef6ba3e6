-- The lists up to the place have room, and the errors are as they were.
use Rattle.std.proofs.Common.{◌≡◌, ◌≤◌, ℕ, take}
use Rattle.error_queue.specs.ErrorQueueState.{lists_of, rooms_of}
use Rattle.rep_lists.specs.Counting.{least}
use Rattle.error_queue.proofs.errors.reserve_each.Given as goal

abbrev pub invariant-loop-list : goal.invariant-loop-list
invariant-loop-list l = record {
  made : 1 ≤ least 1 (take l.list-index (rooms_of l.lists));
  lists : lists_of l.lists ≡ lists_of l.initial.lists;
  room : (free : ℕ) → least free (rooms_of l.initial.lists) ≤ least free (rooms_of l.lists);
}
