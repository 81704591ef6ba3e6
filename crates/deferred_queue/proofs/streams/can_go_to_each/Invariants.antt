-- A transaction can go to each where it can go to those from the place on.
use Rattle.std.proofs.Common.{drop}
use Rattle.std.specs.Prelude.{◌↔◌}
use Rattle.std.specs.List.{AllByRecursion}
use Rattle.deferred_queue.specs.QueueState.{kept_of, CanGo}
use Rattle.deferred_queue.proofs.streams.can_go_to_each.Given as goal

abbrev pub invariant-loop-destination : goal.invariant-loop-destination
invariant-loop-destination l = AllByRecursion (CanGo (kept_of l.streams)) l.to ↔ AllByRecursion (CanGo (kept_of l.streams)) (drop l.destination-index l.to)
