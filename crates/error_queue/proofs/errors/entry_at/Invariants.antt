-- The place in all lists is the place that is left in those from the list on.
use Rattle.std.proofs.Common.{◌≡◌, drop}
use Rattle.std.specs.Prelude.{slice_get}
use Rattle.error_queue.specs.ErrorLists.{in_order}
use Rattle.error_queue.specs.ErrorQueueState.{lists_of}
use Rattle.error_queue.proofs.errors.entry_at.Given as goal

abbrev pub invariant-loop-list : goal.invariant-loop-list
invariant-loop-list l = slice_get (in_order (lists_of l.lists)) l.place ≡ slice_get (in_order (lists_of (drop l.list-index l.lists))) l.left
