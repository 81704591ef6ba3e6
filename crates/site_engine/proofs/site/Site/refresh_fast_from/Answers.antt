use Rattle.std.proofs.Common.{◌≡◌, ◌∙◌, ap, arith, refl, reverse, subst, sym}
use Rattle.site_state.specs.Contents.{tables_of}
use Rattle.site_state.specs.Refreshes.{rows_shown, site_refresh, refresh_fast_answer}
use Rattle.refreshes.specs.Refreshing.{OthersAreShown}
use Rattle.site_engine.specs.SiteInvariant.{state_of}
use Rattle.site_state.proofs.Growing.{one_entry_more}
use Rattle.site_engine.proofs.SiteSteps.{kept_holds_is}
use Rattle.site_engine.proofs.RefreshedSite.{refresh_state_is, refresh_holds_is}
use Rattle.site_engine.proofs.site.Site.refresh_fast_from.Goals as goal

pub refresh_all_fast-requires-clause-schema : goal.refresh_all_fast-requires-clause-schema
refresh_all_fast-requires-clause-schema g c κs lives = rw (← c.self.view_is) at c.requires.schema

pub refresh_all_fast-requires-clause-master : goal.refresh_all_fast-requires-clause-master
refresh_all_fast-requires-clause-master g c κs lives = rw (← c.self.view_is) at c.requires.master

pub refresh_all_fast-requires-clause-others : goal.refresh_all_fast-requires-clause-others
refresh_all_fast-requires-clause-others g c κs lives =
    let s = c.self.inside in
    let logs = c.args.logs.now.logs in
    let shown = g.M.MasterView.tables c.args.master.now in
    let others = subst (λ y. OthersAreShown y.schema logs shown y.snapshots (tables_of y)) (sym c.self.view_is) c.requires.others in
    subst (λ tables. OthersAreShown (g.R.RowStore.schema s.store) logs shown s.notes.snapshots tables) (sym c.self.invariant.tables_are) others

pub invariant_of-self : goal.invariant_of-self
invariant_of-self g c =
    let h = c.self.invariant in
    kept_holds_is _ _ _ _ _ _ c.self.inside.notes _ _ _ _ _ _ h _ _ c.self.inside.outbox c.self.inside.notes _ _ _ c.self.inside.stamps _ refl (ap reverse c.reserve_beside.ensures.items) refl refl refl refl refl h.keeps (omega (arith, h.droppable, c.reserve_beside.ensures.spare))

pub invariant_of-self-in_err-count : goal.invariant_of-self-in_err-count
invariant_of-self-in_err-count g c =
    let h = c.self.invariant in
    let e = c.in_err-count.ensures in
    kept_holds_is _ _ _ _ _ _ c.self.inside.notes _ _ _ _ _ _ h _ _ c.self.inside.outbox c.refresh_all_fast.new.notes _ _ _ c.self.inside.stamps _ c.refresh_all_fast.ensures.schema (ap reverse c.reserve_beside.ensures.items) e.kept refl refl e.same refl h.keeps
    (omega (arith, h.droppable, c.reserve_beside.ensures.spare))

pub invariant_of-self-2 : goal.invariant_of-self-2
invariant_of-self-2 g c =
    let h = c.self.invariant in
    let r = c.in_ok-count in
    let base = ap g.R.RowStore.tables c.of.ensures in
    let site = rw (← c.self.view_is) at c.requires.snapshot_site in
    let journal = one_entry_more _ _ _ _ c.push.ensures.items c.reserve_beside.ensures.items in
    let are = rw (c.refresh_all_fast.ensures.schema, ← base) at c.holds_tables.ensures in
    let counters = rw c.schema.ensures.value at c.in_ok-counters.ensures in
    refresh_holds_is _ _ _ _ _ _ c.self.inside.notes _ _ _ _ _ _ h c.args.moment (g.R.RowStore.tables c.of.result.value) c.refresh_all_fast.new.notes r.ensures.renewed site _ _ _ _ _ c.refresh_all_fast.ensures.schema journal (sym base) counters are
    (omega (arith, c.in_ok-reserve_beside.ensures.ok, c.push.ensures.spare))

pub returns-clause-ok : goal.returns-clause-ok
returns-clause-ok g c =
    let s = c.self.inside in
    let h = c.self.invariant in
    let r = c.in_ok-count in
    let base = ap g.R.RowStore.tables c.of.ensures in
    let journal = one_entry_more _ _ _ _ c.push.ensures.items c.reserve_beside.ensures.items in
    let new = state_of (g.R.RowStore.schema c.refresh_all_fast.new.store) s.here (g.R.RowStore.tables c.of.result.value) (reverse c.push.new.self.items) s.inboxes.items s.outbox c.refresh_all_fast.new.notes s.stamps s.moment in
    subst (λ y. new ≡ site_refresh (rows_shown (g.M.MasterView.tables c.args.master.now) y.snapshots) c.args.moment y) c.self.view_is
    (refresh_state_is _ _ _ _ _ _ c.self.inside.notes _ _ _ _ _ _ h c.args.moment (g.R.RowStore.tables c.of.result.value) c.refresh_all_fast.new.notes r.ensures.renewed _ _ (rows_shown (g.M.MasterView.tables c.args.master.now) c.self.inside.notes.snapshots) c.refresh_all_fast.ensures.schema journal (base ∙ r.ensures.tables) c.refresh_all_fast.ensures.logs)

pub returns-clause-count : goal.returns-clause-count
returns-clause-count g c =
    let shown = g.M.MasterView.tables c.args.master.now in
    subst (λ y. c.in_ok-count.count ≡ refresh_fast_answer c.args.logs.now.logs (rows_shown shown y.snapshots) y) c.self.view_is c.in_ok-count.ensures.count

pub invariant_of-self-in_err-counters : goal.invariant_of-self-in_err-counters
invariant_of-self-in_err-counters g c =
    let h = c.self.invariant in
    kept_holds_is _ _ _ _ _ _ c.self.inside.notes _ _ _ _ _ _ h _ _ c.self.inside.outbox c.self.inside.notes _ _ _ c.self.inside.stamps _ refl (ap reverse c.reserve_beside.ensures.items) refl refl refl refl refl h.keeps (omega (arith, h.droppable, c.reserve_beside.ensures.spare))
