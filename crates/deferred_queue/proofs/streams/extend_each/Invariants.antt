-- The streams up to the place are extended.
use Rattle.std.proofs.Common.{◌≡◌, ◌++◌, map, take, drop}
use Rattle.deferred_queue.specs.QueueState.{held_extended}
use Rattle.deferred_queue.proofs.streams.extend_each.Given as goal

abbrev pub invariant-loop-stream : goal.invariant-loop-stream
invariant-loop-stream l = l.streams ≡ map (held_extended l.to l.number) (take l.stream-index l.initial.streams) ++ drop l.stream-index l.initial.streams
