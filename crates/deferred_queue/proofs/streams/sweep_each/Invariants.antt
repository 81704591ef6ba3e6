-- The streams up to the place are swept.
use Rattle.std.proofs.Common.{◌≡◌, ◌++◌, map, take, drop}
use Rattle.deferred_queue.specs.QueueState.{held_swept}
use Rattle.deferred_queue.proofs.streams.sweep_each.Given as goal

abbrev pub invariant-loop-stream : goal.invariant-loop-stream
invariant-loop-stream l = l.streams ≡ map held_swept (take l.stream-index l.initial.streams) ++ drop l.stream-index l.initial.streams
