use Rattle.proc_calls.proofs.outbox.CallOutbox.is_master.Goals as goal

pub returns : goal.returns
returns c = rw (← c.self.view_is, c.self.invariant.marked) (rw c.deref.ensures.value at c.is_among.ensures)
