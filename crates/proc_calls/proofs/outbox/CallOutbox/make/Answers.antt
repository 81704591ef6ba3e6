use Rattle.proc_calls.proofs.Queued.{IsOutbox-new, Keeps-new}
use Rattle.proc_calls.proofs.outbox.CallOutbox.make.Goals as goal

pub invariant_of-result : goal.invariant_of-result
invariant_of-result c =
    rw (c.in_ok-from_slice.ensures.items, c.in_ok-queue.ensures.marks, c.in_ok-queue.ensures.deferred)
    (IsOutbox-new c.args.masters.now c.in_ok-index.index.streams c.requires c.in_ok-index.ensures.destinations c.in_ok-index.ensures.noted)

pub returns-clause-keeps : goal.returns-clause-keeps
returns-clause-keeps c = rw c.in_ok-queue.ensures.deferred (Keeps-new c.in_ok-queue.queue.marks c.in_ok-index.index.streams c.in_ok-index.ensures.noted)
