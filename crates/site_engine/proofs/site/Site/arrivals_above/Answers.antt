use Rattle.std.proofs.Common.{refl, sym}
use Rattle.site_engine.proofs.Reading.{no_sender, arrivals_are}
use Rattle.site_engine.proofs.Passing.{first_of_none}
use Rattle.site_engine.proofs.site.Site.arrivals_above.Goals as goal

pub returns-in-Some-clause-place : goal.returns-in-Some-clause-place
returns-in-Some-clause-place g c =
    let found = sym (rw c.deref.ensures.value at c.in-Some.ensures) in
    rw (← c.self.view_is, arrivals_are _ _ _ _ _ _ _ c.self.invariant refl c.args.origin.now c.in-Some.inbox.now found) c.first_above.ensures

pub returns-in-Some-clause-from_one : goal.returns-in-Some-clause-from_one
returns-in-Some-clause-from_one g c =
    let found = sym (rw c.deref.ensures.value at c.in-Some.ensures) in
    rw (← c.self.view_is, arrivals_are _ _ _ _ _ _ _ c.self.invariant refl c.args.origin.now c.in-Some.inbox.now found) c.laws.ensures.from_one

pub returns-in-None-clause-place : goal.returns-in-None-clause-place
returns-in-None-clause-place g c =
    let none = sym (rw c.deref.ensures.value at c.in-None.ensures) in
    rw (← c.self.view_is, no_sender _ _ _ _ _ _ _ c.self.invariant refl c.args.origin.now none) (first_of_none c.args.number)

pub returns-in-None-clause-from_one : goal.returns-in-None-clause-from_one
returns-in-None-clause-from_one g c =
    let none = sym (rw c.deref.ensures.value at c.in-None.ensures) in
    rw (← c.self.view_is, no_sender _ _ _ _ _ _ _ c.self.invariant refl c.args.origin.now none) tt
