use Rattle.std.proofs.Common.{refl, sym, ap, ◌∙◌}
use Rattle.site_engine.specs.Working.{touches_unique}
use Rattle.site_engine.proofs.Reading.{nothing_arrived, arrived_is}
use Rattle.site_engine.proofs.Beginning.{arrived_fits, unique_is}
use Rattle.site_engine.proofs.site.Site.has_unique.Goals as goal

pub returns-in_default : goal.returns-in_default
returns-in_default g c =
    let none = sym (rw c.deref.ensures.value at c.in_default.ensures) in
    rw (← c.self.view_is) (ap (touches_unique _) (sym (nothing_arrived _ _ _ _ _ _ _ c.self.invariant refl c.args.origin.now none c.args.position)))

pub returns-in_default-find : goal.returns-in_default-find
returns-in_default-find g c =
    let found = sym (rw c.deref.ensures.value at c.in-Some.ensures) in
    let none = c.in_default-find.ensures ∙ arrived_is _ _ _ _ _ _ _ c.self.invariant refl c.args.origin.now c.in-Some.inbox.now found c.args.position in
    rw (← c.self.view_is) (ap (touches_unique _) none)

pub has_unique_token-requires-clause-fits : goal.has_unique_token-requires-clause-fits
has_unique_token-requires-clause-fits g c =
    let found = sym (rw c.deref.ensures.value at c.in-Some.ensures) in
    let there = sym (c.in-Some-find.ensures ∙ arrived_is _ _ _ _ _ _ _ c.self.invariant refl c.args.origin.now c.in-Some.inbox.now found c.args.position) in
    rw c.schema.ensures.value (arrived_fits _ _ _ _ _ _ _ c.self.invariant c.args.origin.now c.args.position c.in-Some-find.arrival.now there)

pub returns : goal.returns
returns g c =
    let found = sym (rw c.deref.ensures.value at c.in-Some.ensures) in
    let there = sym (c.in-Some-find.ensures ∙ arrived_is _ _ _ _ _ _ _ c.self.invariant refl c.args.origin.now c.in-Some.inbox.now found c.args.position) in
    rw (← c.self.view_is) (rw c.schema.ensures.value at c.has_unique_token.ensures ∙ unique_is _ _ _ _ _ _ _ c.self.invariant c.args.origin.now c.args.position c.in-Some-find.arrival.now there)
