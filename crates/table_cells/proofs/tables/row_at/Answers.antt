-- The row at a place is the first from there on.
use Rattle.std.proofs.Common.{sym}
use Rattle.rep_lists.proofs.Places.{drop_from_found}
use Rattle.rep_schema.specs.Tables.{rows_of}
use Rattle.table_cells.proofs.tables.row_at.Goals as goal

pub returns : goal.returns
returns c = drop_from_found (rows_of c.args.store.now.tables c.args.table) c.args.place c.in-Some.row.now (sym c.in-Some.ensures)
