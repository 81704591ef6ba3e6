use Rattle.std.proofs.Common.{refl, sym, ap, ◌∙◌, length}
use Rattle.site_engine.proofs.Reading.{arrivals_are, no_sender}
use Rattle.site_state.specs.State.{arrived_in}
use Rattle.site_engine.proofs.site.Site.arrived.Goals as goal

pub returns-in-Some : goal.returns-in-Some
returns-in-Some g c =
    let found = sym (rw c.deref.ensures.value at c.in-Some.ensures) in
    rw (← c.self.view_is) (c.len.ensures ∙ ap length (sym (arrivals_are _ _ _ _ _ _ _ c.self.invariant refl c.args.origin.now c.in-Some.inbox.now found)))

pub returns-in-None : goal.returns-in-None
returns-in-None g c =
    let none = sym (rw c.deref.ensures.value at c.in-None.ensures) in
    rw (← c.self.view_is) (ap (λ s. length (arrived_in s)) (sym (no_sender _ _ _ _ _ _ _ c.self.invariant refl c.args.origin.now none)))
