-- A list for each origin so far.
use Rattle.std.proofs.Common.{◌≡◌, take, map}
use Rattle.error_queue.specs.ErrorLists.{no_errors}
use Rattle.error_queue.specs.ErrorQueueState.{lists_of}
use Rattle.error_queue.proofs.errors.new_lists.Given as goal

abbrev pub invariant-loop-origin : goal.invariant-loop-origin
invariant-loop-origin l = lists_of l.lists.items ≡ map no_errors (take l.origin-index l.origins)
