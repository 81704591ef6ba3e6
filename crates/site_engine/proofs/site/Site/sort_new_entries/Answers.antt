use Rattle.std.proofs.Common.{ap, arith, refl, reverse, subst}
use Rattle.journal_sort.proofs.SortedJournals.{PositionsDiffer-items}
use Rattle.site_engine.specs.SiteInvariant.{state_of}
use Rattle.site_engine.specs.Ordering.{IsSortedSite}
use Rattle.site_engine.proofs.SiteSteps.{kept_holds_is}
use Rattle.site_engine.proofs.SortedSite.{sorted_site, sorted_holds}
use Rattle.site_engine.proofs.site.Site.sort_new_entries.Goals as goal

pub sort_from-requires-clause-positions : goal.sort_from-requires-clause-positions
sort_from-requires-clause-positions g c =
    let can = rw (← c.self.view_is) at c.requires.entries in
    PositionsDiffer-items _ can.0 c.args.from c.self.inside.journal.items c.self.invariant.once can.1

pub invariant_of-self : goal.invariant_of-self
invariant_of-self g c =
    let h = c.self.invariant in
    kept_holds_is _ _ _ _ _ _ c.self.inside.notes _ _ _ _ _ _ h _ _ c.self.inside.outbox c.self.inside.notes _ _ _ c.self.inside.stamps _ refl (ap reverse c.in_err-sort_from.ensures.err) refl refl refl refl refl h.keeps (omega (arith, h.droppable, c.sort_from.ensures.spare))

pub invariant_of-self-2 : goal.invariant_of-self-2
invariant_of-self-2 g c =
    let can = rw (← c.self.view_is) at c.requires.entries in
    let sound = rw (← c.self.view_is) at c.requires.sound in
    sorted_holds _ _ _ _ _ _ c.self.inside.notes _ _ _ _ _ _ c.self.invariant can.0 c.args.from sound can.1 (reverse c.sort_from.new.journal.items) c.in_ok-sort_from.ensures.ok _ c.sort_from.ensures.spare

pub returns-clause-ok : goal.returns-clause-ok
returns-clause-ok g c =
    let s = c.self.inside in
    let can = rw (← c.self.view_is) at c.requires.entries in
    let sound = rw (← c.self.view_is) at c.requires.sound in
    let new = state_of (g.R.RowStore.schema s.store) s.here (g.R.RowStore.tables s.base.value) (reverse c.sort_from.new.journal.items) s.inboxes.items s.outbox s.notes s.stamps s.moment in
    subst (λ y. IsSortedSite c.args.from y new) c.self.view_is
    (sorted_site _ _ _ _ _ _ c.self.inside.notes _ _ _ _ _ _ c.self.invariant can.0 c.args.from sound can.1 (reverse c.sort_from.new.journal.items) c.in_ok-sort_from.ensures.ok)
