use Rattle.std.proofs.Common.{refl, sym, ◌∙◌}
use Rattle.site_engine.proofs.Reading.{stale_none, arrived_is, ready_arrives}
use Rattle.site_engine.proofs.site.Site.ready_arrival.Goals as goal

pub unreachable-requires : goal.unreachable-requires
unreachable-requires g c =
    let ready = rw (← c.self.view_is) at c.requires in
    let none = sym (rw c.deref.ensures.value at c.in_default.ensures) in
    let stale = stale_none _ _ _ _ _ _ _ c.self.invariant refl c.args.origin.now none c.args.position in
    absurd (cc (stale, ready))

pub unreachable-requires-in_default-find : goal.unreachable-requires-in_default-find
unreachable-requires-in_default-find g c =
    let ready = rw (← c.self.view_is) at c.requires in
    let found = sym (rw c.deref.ensures.value at c.in-Some.ensures) in
    ready_arrives _ _ _ _ _ _ _ c.self.invariant refl c.args.origin.now c.in-Some.inbox.now found c.args.position (sym c.in_default-find.ensures) ready

pub returns : goal.returns
returns g c =
    let found = sym (rw c.deref.ensures.value at c.in-Some.ensures) in
    rw (← c.self.view_is) (sym (c.in-Some-find.ensures ∙ arrived_is _ _ _ _ _ _ _ c.self.invariant refl c.args.origin.now c.in-Some.inbox.now found c.args.position))
