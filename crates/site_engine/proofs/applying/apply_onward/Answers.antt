use Rattle.conflict_detect.proofs.LedCalls.{ChangeFits-led}
use Rattle.site_engine.proofs.applying.apply_onward.Goals as goal

pub send_onward-requires-clause-fits : goal.send_onward-requires-clause-fits
send_onward-requires-clause-fits g c =
    let schema = g.R.RowStore.schema c.args.store.now in
    let done = c.in_ok-applied in
    rw (c.schema.ensures.value, done.ensures.schema, c.as_slice.ensures)
    (ChangeFits-led schema done.applied.changes.rows (g.R.RowStore.tables c.args.store.now) (g.R.RowStore.tables c.apply_txn.new.store) done.ensures.were done.ensures.leads done.ensures.differ)

pub returns-in-Ok-clause-fits : goal.returns-in-Ok-clause-fits
returns-in-Ok-clause-fits g c =
    let done = c.in_ok-applied in
    ChangeFits-led (g.R.RowStore.schema c.args.store.now) done.applied.changes.rows (g.R.RowStore.tables c.args.store.now) (g.R.RowStore.tables c.apply_txn.new.store) done.ensures.were done.ensures.leads done.ensures.differ
