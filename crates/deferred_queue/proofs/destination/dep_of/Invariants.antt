-- A destination that was passed is to another site.
use Rattle.std.proofs.Common.{◌≡◌, drop}
use Rattle.deferred_queue.specs.Streams.{destination_to}
use Rattle.deferred_queue.proofs.destination.dep_of.Given as goal

abbrev pub invariant-loop-destination : goal.invariant-loop-destination
invariant-loop-destination l = destination_to l.site l.to ≡ destination_to l.site (drop l.destination-index l.to)
