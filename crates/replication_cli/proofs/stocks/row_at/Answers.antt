-- The row at a place is the first from there on.
use Rattle.std.proofs.Common.{sym}
use Rattle.rep_lists.proofs.Places.{drop_from_found}
use Rattle.rep_schema.specs.Tables.{rows_of}
use Rattle.replication_cli.proofs.stocks.row_at.Goals as goal

pub returns : goal.returns
returns g c = drop_from_found (rows_of (g.R.RowStore.tables c.args.store.now) 0) c.args.place c.in-Some.row.now (sym c.in-Some.ensures)
