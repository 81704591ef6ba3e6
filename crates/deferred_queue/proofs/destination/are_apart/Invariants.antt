-- The destinations are apart where those from the place on are.
use Rattle.std.proofs.Common.{drop}
use Rattle.std.specs.Prelude.{◌↔◌}
use Rattle.deferred_queue.specs.Streams.{DestinationsApart}
use Rattle.deferred_queue.proofs.destination.are_apart.Given as goal

abbrev pub invariant-loop-place : goal.invariant-loop-place
invariant-loop-place l = DestinationsApart l.to ↔ DestinationsApart (drop l.place l.to)
