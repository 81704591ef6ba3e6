use Rattle.std.proofs.Common.{reverse}
use Rattle.proc_state.proofs.Fitting.{CanPass-fits}
use Rattle.proc_state.proofs.Ordering.{earlier_first}
use Rattle.proc_calls.specs.ProcSiteInvariant.{state_of}
use Rattle.proc_calls.proofs.site.ProcSite.laws.Goals as goal

pub returns-clause-fits : goal.returns-clause-fits
returns-clause-fits c = rw (← c.self.view_is) c.self.invariant.fits

pub returns-clause-passes : goal.returns-clause-passes
returns-clause-passes c =
    let s = c.self.inside in
    rw (← c.self.view_is) (CanPass-fits (state_of s.store.schema s.procedures s.me (reverse s.journal.items) s.inboxes.items s.outbox) c.self.invariant.fits)

pub returns-clause-once : goal.returns-clause-once
returns-clause-once c = rw (← c.self.view_is) c.self.invariant.once

pub returns-clause-order : goal.returns-clause-order
returns-clause-order c =
    let s = c.self.inside in
    rw (← c.self.view_is) (earlier_first (state_of s.store.schema s.procedures s.me (reverse s.journal.items) s.inboxes.items s.outbox) c.self.invariant.waited)
