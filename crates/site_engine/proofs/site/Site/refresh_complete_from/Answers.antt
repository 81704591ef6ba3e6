use Rattle.std.proofs.Common.{◌≡◌, ◌∙◌, ap, arith, refl, reverse, subst, sym}
use Rattle.site_state.specs.Refreshes.{site_refresh}
use Rattle.site_engine.specs.SiteInvariant.{state_of}
use Rattle.site_state.proofs.Growing.{one_entry_more}
use Rattle.site_engine.proofs.SiteSteps.{kept_holds_is}
use Rattle.site_engine.proofs.RefreshedSite.{refresh_state_is, refresh_holds_is}
use Rattle.site_engine.proofs.site.Site.refresh_complete_from.Goals as goal

pub refresh_all-requires-clause-rows : goal.refresh_all-requires-clause-rows
refresh_all-requires-clause-rows g c κs lives = rw (← c.self.view_is) at c.requires.rows

pub invariant_of-self : goal.invariant_of-self
invariant_of-self g c =
    let h = c.self.invariant in
    kept_holds_is _ _ _ _ _ _ c.self.inside.notes _ _ _ _ _ _ h _ _ c.self.inside.outbox c.self.inside.notes _ _ _ c.self.inside.stamps _ refl (ap reverse c.reserve_beside.ensures.items) refl refl refl refl refl h.keeps (omega (arith, h.droppable, c.reserve_beside.ensures.spare))

pub invariant_of-self-in_err-count : goal.invariant_of-self-in_err-count
invariant_of-self-in_err-count g c =
    let h = c.self.invariant in
    let e = c.in_err-count.ensures in
    kept_holds_is _ _ _ _ _ _ c.self.inside.notes _ _ _ _ _ _ h _ _ c.self.inside.outbox c.refresh_all.new.notes _ _ _ c.self.inside.stamps _ c.refresh_all.ensures.schema (ap reverse c.reserve_beside.ensures.items) e.kept refl refl e.same refl h.keeps
    (omega (arith, h.droppable, c.reserve_beside.ensures.spare))

pub invariant_of-self-2 : goal.invariant_of-self-2
invariant_of-self-2 g c =
    let h = c.self.invariant in
    let r = c.in_ok-count in
    let base = ap g.R.RowStore.tables c.of.ensures in
    let site = rw (← c.self.view_is) at c.requires.snapshot_site in
    let journal = one_entry_more _ _ _ _ c.push.ensures.items c.reserve_beside.ensures.items in
    let are = rw (c.refresh_all.ensures.schema, ← base) at c.holds_tables.ensures in
    let counters = rw c.schema.ensures.value at c.in_ok-counters.ensures in
    refresh_holds_is _ _ _ _ _ _ c.self.inside.notes _ _ _ _ _ _ h c.args.moment (g.R.RowStore.tables c.of.result.value) c.refresh_all.new.notes r.ensures.renewed site _ _ _ _ _ c.refresh_all.ensures.schema journal (sym base) counters are
    (omega (arith, c.in_ok-reserve_beside.ensures.ok, c.push.ensures.spare))

pub returns-clause-ok : goal.returns-clause-ok
returns-clause-ok g c =
    let s = c.self.inside in
    let h = c.self.invariant in
    let r = c.in_ok-count in
    let base = ap g.R.RowStore.tables c.of.ensures in
    let journal = one_entry_more _ _ _ _ c.push.ensures.items c.reserve_beside.ensures.items in
    let new = state_of (g.R.RowStore.schema c.refresh_all.new.store) s.here (g.R.RowStore.tables c.of.result.value) (reverse c.push.new.self.items) s.inboxes.items s.outbox c.refresh_all.new.notes s.stamps s.moment in
    subst (λ y. new ≡ site_refresh c.args.rows.now c.args.moment y) c.self.view_is
    (refresh_state_is _ _ _ _ _ _ c.self.inside.notes _ _ _ _ _ _ h c.args.moment (g.R.RowStore.tables c.of.result.value) c.refresh_all.new.notes r.ensures.renewed _ _ c.args.rows.now c.refresh_all.ensures.schema journal (base ∙ r.ensures.tables) c.refresh_all.ensures.logs)

pub invariant_of-self-in_err-counters : goal.invariant_of-self-in_err-counters
invariant_of-self-in_err-counters g c =
    let h = c.self.invariant in
    kept_holds_is _ _ _ _ _ _ c.self.inside.notes _ _ _ _ _ _ h _ _ c.self.inside.outbox c.self.inside.notes _ _ _ c.self.inside.stamps _ refl (ap reverse c.reserve_beside.ensures.items) refl refl refl refl refl h.keeps (omega (arith, h.droppable, c.reserve_beside.ensures.spare))
