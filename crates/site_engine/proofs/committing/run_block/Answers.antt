use Rattle.conflict_detect.proofs.LedCalls.{ChangeFits-led}
use Rattle.site_engine.proofs.FewChanges.{few_by_block}
use Rattle.site_engine.proofs.committing.run_block.Goals as goal

pub returns-in-Ok-clause-fits : goal.returns-in-Ok-clause-fits
returns-in-Ok-clause-fits g c =
    let local = c.in_ok-local in
    ChangeFits-led (g.R.RowStore.schema c.args.store.now) local.local.changes.rows (g.R.RowStore.tables c.args.store.now) (g.R.RowStore.tables c.run_local.new.store) local.ensures.were local.ensures.leads local.ensures.differ

pub returns-in-Ok-clause-few : goal.returns-in-Ok-clause-few
returns-in-Ok-clause-few g c = (few_by_block (g.R.RowStore.schema c.args.store.now) c.args.here.now c.args.stamps.now c.args.statements.now (g.R.RowStore.tables c.args.store.now) _ c.in_ok-local.ensures.ok).0
