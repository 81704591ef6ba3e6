use Rattle.std.proofs.Common.{refl, sym}
use Rattle.site_engine.proofs.Reading.{rising_found, rising_none}
use Rattle.site_engine.proofs.site.Site.arrivals_rise.Goals as goal

pub returns-in-Some : goal.returns-in-Some
returns-in-Some g c =
    let found = sym (rw c.deref.ensures.value at c.in-Some.ensures) in
    rw (← c.self.view_is) (rising_found _ _ _ _ _ _ _ c.self.invariant refl c.args.origin.now c.in-Some.inbox.now found c.laws.ensures.rising)

pub returns-in_default : goal.returns-in_default
returns-in_default g c =
    let none = sym (rw c.deref.ensures.value at c.in_default.ensures) in
    rw (← c.self.view_is) (rising_none _ _ _ _ _ _ _ c.self.invariant refl c.args.origin.now none)
