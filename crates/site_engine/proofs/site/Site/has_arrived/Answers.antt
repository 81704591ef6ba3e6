-- What arrived stands in the sender's inbox.
use Rattle.std.proofs.Common.{refl, sym, ap, ◌∙◌}
use Rattle.std.specs.Prelude.{is_some}
use Rattle.site_engine.proofs.Reading.{nothing_arrived, arrived_is}
use Rattle.site_engine.proofs.site.Site.has_arrived.Goals as goal

pub returns-in_default : goal.returns-in_default
returns-in_default g c =
    let none = sym (rw c.deref.ensures.value at c.in_default.ensures) in
    rw (← c.self.view_is, nothing_arrived _ _ _ _ _ _ _ c.self.invariant refl c.args.origin.now none c.args.position) refl

pub returns : goal.returns
returns g c =
    let found = sym (rw c.deref.ensures.value at c.in-Some.ensures) in
    rw (← c.self.view_is) (c.has_arrived.ensures ∙ ap is_some (arrived_is _ _ _ _ _ _ _ c.self.invariant refl c.args.origin.now c.in-Some.inbox.now found c.args.position))
