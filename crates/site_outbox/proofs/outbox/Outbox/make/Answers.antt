use Rattle.site_outbox.proofs.Joined.{with_marks-new}
use Rattle.site_outbox.proofs.OutboxSteps.{IsOutbox-new, Keeps-new}
use Rattle.site_outbox.proofs.outbox.Outbox.make.Goals as goal

pub invariant_of-result : goal.invariant_of-result
invariant_of-result c =
    rw (c.in_ok-outlets.ensures, c.in_ok-queue.ensures.marks, c.in_ok-queue.ensures.deferred)
    (IsOutbox-new c.args.schema.now c.args.destinations.now c.in_ok-index.index.streams c.requires.apart c.in_ok-index.ensures.destinations c.in_ok-index.ensures.noted)

pub returns-clause-destinations : goal.returns-clause-destinations
returns-clause-destinations c = rw (c.in_ok-outlets.ensures, c.in_ok-queue.ensures.marks) (with_marks-new c.args.schema.now c.args.destinations.now)

pub returns-clause-keeps : goal.returns-clause-keeps
returns-clause-keeps c =
    rw (c.in_ok-outlets.ensures, c.in_ok-queue.ensures.marks, c.in_ok-queue.ensures.deferred, with_marks-new c.args.schema.now c.args.destinations.now)
    (Keeps-new c.args.schema.now c.args.destinations.now c.in_ok-index.index.streams c.in_ok-index.ensures.noted)
