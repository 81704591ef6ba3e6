use Rattle.sender_inbox.proofs.StandingErrors.{in_order-lists}
use Rattle.proc_calls.proofs.site.ProcSite.errors.Goals as goal

pub returns : goal.returns
returns c = rw (← c.self.view_is, c.self.invariant.errors_are) search (in_order-lists)
