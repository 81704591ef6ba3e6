use Rattle.std.proofs.Common.{ap, arith}
use Rattle.deferred_queue.specs.QueueState.{is_within}
use Rattle.deferred_queue.proofs.stream.Stream.has_passed.Goals as goal

pub place_with-requires : goal.place_with-requires
place_with-requires c = rw c.deref.ensures.value c.self.invariant

pub overflow_add-result : goal.overflow_add-result
overflow_add-result c = omega (arith, c.in-Some.ensures.within, c.deref.ensures.len)

pub returns-in-Some : goal.returns-in-Some
returns-in-Some c =
    let position = rw c.deref.ensures.value at c.in-Some.ensures.position in
    rw (← c.self.view_is) (ap (λ p. is_within p c.self.inside.acked) position)

pub returns-in-None : goal.returns-in-None
returns-in-None c =
    let position = rw c.deref.ensures.value at c.in-None.ensures.position in
    rw (← c.self.view_is) (ap (λ p. is_within p c.self.inside.acked) position)
