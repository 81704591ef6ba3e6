-- All have passed the number where those from the place on have.
use Rattle.std.proofs.Common.{◌≡◌, drop}
use Rattle.std.specs.List.{list_all}
use Rattle.deferred_queue.specs.QueueState.{kept_of, has_passed}
use Rattle.deferred_queue.proofs.streams.have_passed.Given as goal

abbrev pub invariant-loop-stream : goal.invariant-loop-stream
invariant-loop-stream l = list_all (has_passed l.number) (kept_of l.streams) ≡ list_all (has_passed l.number) (kept_of (drop l.stream-index l.streams))
