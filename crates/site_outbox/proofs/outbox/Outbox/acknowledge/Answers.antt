use Rattle.std.proofs.Common.{arith}
use Rattle.site_outbox.proofs.Joined.{with_marks-raised}
use Rattle.site_outbox.proofs.OutboxSteps.{IsOutbox-raised, Keeps-acknowledged}
use Rattle.site_outbox.proofs.outbox.Outbox.acknowledge.Goals as goal

pub invariant_of-self : goal.invariant_of-self
invariant_of-self c =
    let inside = c.self.inside in
    let within = rw (← c.self.view_is) at c.requires in
    rw (c.acknowledge.ensures.marks, c.acknowledge.ensures.deferred)
    (IsOutbox-raised inside.outlets.items inside.queue.marks inside.queue.deferred inside.index.streams inside.count inside.purged c.args.site.now _ (omega (arith, within)) c.self.invariant)

pub returns-clause-destinations : goal.returns-clause-destinations
returns-clause-destinations c =
    let inside = c.self.inside in
    rw (← c.self.view_is, c.acknowledge.ensures.marks) (with_marks-raised c.args.site.now c.args.mark inside.outlets.items inside.queue.marks c.self.invariant.marked c.self.invariant.apart)

pub returns-clause-keeps : goal.returns-clause-keeps
returns-clause-keeps c =
    let inside = c.self.inside in
    rw (← c.self.view_is, c.acknowledge.ensures.marks, c.acknowledge.ensures.deferred, with_marks-raised c.args.site.now c.args.mark inside.outlets.items inside.queue.marks c.self.invariant.marked c.self.invariant.apart)
    (λ schema pasts txns keeps. Keeps-acknowledged schema pasts txns c.args.site.now c.args.mark _ inside.purged inside.queue.deferred inside.index.streams keeps)
