use Rattle.std.proofs.Common.{ap, sym, refl}
use Rattle.std.specs.Prelude.{is_some}
use Rattle.site_engine.proofs.Reading.{no_sender, sender_is}
use Rattle.site_engine.proofs.site.Site.is_sender.Goals as goal

pub returns-in-Some : goal.returns-in-Some
returns-in-Some g c =
    let found = sym (rw c.deref.ensures.value at c.in-Some.ensures) in
    rw (← c.self.view_is) (ap is_some (sym (sender_is _ _ _ _ _ _ _ c.self.invariant refl c.args.site.now _ found)))

pub returns-in-None : goal.returns-in-None
returns-in-None g c =
    let none = sym (rw c.deref.ensures.value at c.in-None.ensures) in
    rw (← c.self.view_is) (ap is_some (sym (no_sender _ _ _ _ _ _ _ c.self.invariant refl c.args.site.now none)))
