-- The streams up to the place have room.
use Rattle.std.proofs.Common.{◌≡◌, ◌++◌, map, take, drop}
use Rattle.dependency_index.specs.Columns.{promised}
use Rattle.dependency_index.proofs.streams.promise_each.Given as goal

abbrev pub invariant-loop-stream : goal.invariant-loop-stream
invariant-loop-stream l = l.streams ≡ map (promised l.size) (take l.stream-index l.initial.streams) ++ drop l.stream-index l.initial.streams
