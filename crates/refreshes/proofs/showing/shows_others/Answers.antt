use Rattle.rep_schema.specs.Tables.{columns_of, rows_of}
use Rattle.snapshot_query.specs.Queries.{matches}
use Rattle.refreshes.proofs.ShownRows.{shows_all, shows_from_rows}
use Rattle.refreshes.proofs.showing.shows_others.Goals as goal

pub returns-then-shows_each : goal.returns-then-shows_each
returns-then-shows_each g c =
    let columns = columns_of (g.R.RowStore.schema c.args.store.now) c.args.table in
    let rows = rows_of (g.R.RowStore.tables c.args.store.now) c.args.table in
    let master = rows_of (g.S.RowStore.tables c.args.master.now) c.args.table in (
      λ yes. shows_from_rows columns (matches c.args.query.now) c.args.keys.now master rows (c.shows_each.ensures.0 c.if-shows_each.true) (c.shows_each-then-shows_each.ensures.0 yes),
      λ others. c.shows_each-then-shows_each.ensures.1 (shows_all columns (matches c.args.query.now) c.args.keys.now master rows master others),
    )

pub returns-else-shows_each : goal.returns-else-shows_each
returns-else-shows_each g c =
    let columns = columns_of (g.R.RowStore.schema c.args.store.now) c.args.table in
    let rows = rows_of (g.R.RowStore.tables c.args.store.now) c.args.table in
    let master = rows_of (g.S.RowStore.tables c.args.master.now) c.args.table in
    (λ yes. absurd (cc (yes, c.if-shows_each.false)), λ others. c.shows_each.ensures.1 (shows_all columns (matches c.args.query.now) c.args.keys.now master rows rows others))
