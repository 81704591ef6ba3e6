use Rattle.std.proofs.Common.{refl, sym, ◌∙◌}
use Rattle.site_engine.proofs.Reading.{finished_none, finished_is}
use Rattle.site_engine.proofs.site.Site.is_finished.Goals as goal

pub returns-in-Some : goal.returns-in-Some
returns-in-Some g c =
    let found = sym (rw c.deref.ensures.value at c.in-Some.ensures) in
    rw (← c.self.view_is) (c.is_finished.ensures ∙ finished_is _ _ _ _ _ _ _ c.self.invariant refl c.args.origin.now c.in-Some.inbox.now found c.args.position)

pub returns-in-None : goal.returns-in-None
returns-in-None g c =
    let none = sym (rw c.deref.ensures.value at c.in-None.ensures) in
    rw (← c.self.view_is) (finished_none _ _ _ _ _ _ _ c.self.invariant refl c.args.origin.now none c.args.position)
