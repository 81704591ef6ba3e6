use Rattle.std.proofs.Common.{◌≡◌, reverse, set, subst}
use Rattle.site_state.specs.Joining.{site_first}
use Rattle.site_engine.specs.SiteInvariant.{state_of}
use Rattle.site_engine.proofs.FirstNumbers.{first_absent, first_state, first_holds}
use Rattle.site_engine.proofs.site.Site.set_first.Goals as goal

pub invariant_of-self : goal.invariant_of-self
invariant_of-self g c =
    let found = rw c.deref.ensures.value at c.in-Some.ensures in
    let nothing = rw (← c.self.view_is) at c.requires in
    first_holds _ _ _ _ _ c.self.inside.notes _ _ c.args.origin.now c.args.number c.in-Some.place c.index_mut-inbox.result.now c.set_first.new.self found c.index_mut-inbox.ensures.value c.set_first.ensures.sender c.set_first.ensures.marked
    _ _ _ _ _ nothing c.self.invariant

pub returns-in-Some : goal.returns-in-Some
returns-in-Some g c =
    let s = c.self.inside in
    let found = rw c.deref.ensures.value at c.in-Some.ensures in
    let new = state_of (g.R.RowStore.schema s.store) s.here (g.R.RowStore.tables s.base.value) (reverse s.journal.items) (set s.inboxes.items c.in-Some.place c.set_first.new.self) s.outbox s.notes s.stamps s.moment in
    subst (λ y. new ≡ site_first c.args.origin.now c.args.number y) c.self.view_is
    (first_state _ _ _ _ s.outbox s.notes _ _ c.args.origin.now c.args.number c.in-Some.place c.index_mut-inbox.result.now c.set_first.new.self found c.index_mut-inbox.ensures.value c.set_first.ensures.sender c.set_first.ensures.marked _)

pub returns-in_default : goal.returns-in_default
returns-in_default g c =
    let s = c.self.inside in
    let none = rw c.deref.ensures.value at c.in_default.ensures in
    subst (λ y. y ≡ site_first c.args.origin.now c.args.number y) c.self.view_is
    (first_absent _ _ _ _ s.inboxes.items s.outbox s.notes _ _ c.args.origin.now c.args.number none)
