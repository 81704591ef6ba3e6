use Rattle.proc_calls.proofs.Queued.{IsOutbox-raised}
use Rattle.proc_calls.proofs.outbox.CallOutbox.acknowledge.Goals as goal

pub invariant_of-self : goal.invariant_of-self
invariant_of-self c = rw (c.acknowledge.ensures.marks, c.acknowledge.ensures.deferred) (IsOutbox-raised c.args.site.now c.args.mark _ _ _ _ _ c.self.invariant)
