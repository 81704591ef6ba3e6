-- Making one change.
use Rattle.rep_schema.specs.Tables.{columns_of, rows_of, RowFits}
use Rattle.rep_schema.proofs.FoundRows.{found_row}
use Rattle.txn_apply.proofs.making.make_change.Goals as goal

-- the row that is taken away is one of the table's
pub key_in-key-requires-clause-fits : goal.key_in-key-requires-clause-fits
key_in-key-requires-clause-fits g c =
    let schema = g.R.RowStore.schema c.args.store.now in
    let rows = rows_of (g.R.RowStore.tables c.args.store.now) c.args.change.table in
    let there = rw c.in-Some-None.is-0 at c.requires.is.before in
    let fits = (c.holds_tables.ensures.each c.args.change.table c.requires.is.table).fit in
    rw c.schema.ensures.value (found_row (columns_of schema c.args.change.table) _ c.in-Some-None.row rows there (RowFits (columns_of schema c.args.change.table)) fits)
