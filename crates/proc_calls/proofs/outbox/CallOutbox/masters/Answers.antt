use Rattle.std.proofs.Common.{sym, ◌∙◌}
use Rattle.proc_calls.proofs.outbox.CallOutbox.masters.Goals as goal

pub returns : goal.returns
returns c = rw (← c.self.view_is) (c.deref.ensures.value ∙ sym c.self.invariant.marked)
