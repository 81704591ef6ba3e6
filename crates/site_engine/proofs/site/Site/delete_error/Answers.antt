use Rattle.std.proofs.Common.{◌≡◌, ◌+◌, arith, refl, reverse, subst}
use Rattle.site_state.specs.Errors.{site_drop}
use Rattle.site_engine.specs.SiteInvariant.{state_of}
use Rattle.site_state.proofs.Growing.{one_entry_more}
use Rattle.site_engine.proofs.SiteSteps.{error_is, none_to_drop, one_stands, drops, drop_state_is, drop_holds_is}
use Rattle.site_engine.proofs.site.Site.delete_error.Goals as goal

pub returns-in_default-clause-err : goal.returns-in_default-clause-err
returns-in_default-clause-err g c =
    let rising = rw (← c.self.view_is) at c.arrivals_rise.ensures in
    rw (← c.self.view_is) (none_to_drop _ _ _ _ _ _ c.self.inside.notes _ _ _ _ _ _ c.self.invariant c.args.origin.now c.args.position rising c.in_default.ensures)

pub push-requires : goal.push-requires
push-requires g c =
    let h = c.self.invariant in
    let rising = rw (← c.self.view_is) at c.arrivals_rise.ensures in
    let e = c.in-Some.field-0.now in
    let stands = error_is _ _ _ _ _ _ c.self.inside.notes _ _ _ _ _ _ h c.args.origin.now c.args.position rising e c.in-Some.ensures in
    one_stands _ _ _ _ _ _ c.self.inside.notes _ _ _ _ _ _ h c.args.origin.now c.args.position e stands rising

pub invariant_of-self : goal.invariant_of-self
invariant_of-self g c =
    let h = c.self.invariant in
    let rising = rw (← c.self.view_is) at c.arrivals_rise.ensures in
    let e = c.in-Some.field-0.now in
    let stands = error_is _ _ _ _ _ _ c.self.inside.notes _ _ _ _ _ _ h c.args.origin.now c.args.position rising e c.in-Some.ensures in
    drop_holds_is _ _ _ _ _ _ c.self.inside.notes _ _ _ _ _ _ h c.args.origin.now c.args.position e stands rising _ _ _ (one_entry_more _ _ _ _ c.push.ensures.items refl) c.remove.ensures.lists (omega (arith, h.droppable, c.push.ensures.spare))

pub returns-clause-ok : goal.returns-clause-ok
returns-clause-ok g c =
    let s = c.self.inside in
    let h = c.self.invariant in
    let rising = rw (← c.self.view_is) at c.arrivals_rise.ensures in
    let e = c.in-Some.field-0.now in
    let stands = error_is _ _ _ _ _ _ c.self.inside.notes _ _ _ _ _ _ h c.args.origin.now c.args.position rising e c.in-Some.ensures in
    let new = state_of (g.R.RowStore.schema s.store) s.here (g.R.RowStore.tables s.base.value) (reverse c.push.new.self.items) s.inboxes.items s.outbox s.notes s.stamps (s.moment + 1) in
    subst (λ y. new ≡ site_drop c.args.origin.now c.args.position y) c.self.view_is
    (drop_state_is _ _ _ _ _ _ c.self.inside.notes _ _ _ _ _ _ h c.args.origin.now c.args.position e stands rising _ (one_entry_more _ _ _ _ c.push.ensures.items refl))

pub returns-clause-drops : goal.returns-clause-drops
returns-clause-drops g c =
    let h = c.self.invariant in
    let rising = rw (← c.self.view_is) at c.arrivals_rise.ensures in
    let e = c.in-Some.field-0.now in
    let stands = error_is _ _ _ _ _ _ c.self.inside.notes _ _ _ _ _ _ h c.args.origin.now c.args.position rising e c.in-Some.ensures in
    rw (← c.self.view_is) (drops _ _ _ _ _ _ c.self.inside.notes _ _ _ _ _ _ h c.args.origin.now c.args.position e stands rising)
