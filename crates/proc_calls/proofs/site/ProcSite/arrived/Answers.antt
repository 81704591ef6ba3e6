use Rattle.std.proofs.Common.{refl, sym, ap, ◌∙◌, length}
use Rattle.proc_calls.proofs.Reading.{arrivals_are, nothing_arrived}
use Rattle.proc_calls.proofs.site.ProcSite.arrived.Goals as goal

pub returns-in-Some : goal.returns-in-Some
returns-in-Some c =
    let found = sym (rw c.deref.ensures.value at c.in-Some.ensures) in
    rw (← c.self.view_is) (c.len.ensures ∙ ap length (sym (arrivals_are _ _ _ _ _ c.self.invariant refl c.args.origin.now c.in-Some.inbox.now found)))

pub returns-in-None : goal.returns-in-None
returns-in-None c =
    let none = sym (rw c.deref.ensures.value at c.in-None.ensures) in
    rw (← c.self.view_is) (ap length (sym (nothing_arrived _ _ _ _ _ c.self.invariant refl c.args.origin.now none)))
