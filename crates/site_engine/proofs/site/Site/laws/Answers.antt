use Rattle.std.proofs.Common.{reverse}
use Rattle.journal_sort.proofs.Waited.{earlier_first}
use Rattle.site_engine.specs.SiteInvariant.{state_of}
use Rattle.site_engine.proofs.site.Site.laws.Goals as goal

pub returns-clause-fits : goal.returns-clause-fits
returns-clause-fits g c = rw (← c.self.view_is) c.self.invariant.fits

pub returns-clause-once : goal.returns-clause-once
returns-clause-once g c = rw (← c.self.view_is) c.self.invariant.once

pub returns-clause-order : goal.returns-clause-order
returns-clause-order g c =
    let s = c.self.inside in
    rw (← c.self.view_is) (earlier_first (state_of (g.R.RowStore.schema s.store) s.here (g.R.RowStore.tables s.base.value) (reverse s.journal.items) s.inboxes.items s.outbox s.notes s.stamps s.moment) c.self.invariant.waited)
