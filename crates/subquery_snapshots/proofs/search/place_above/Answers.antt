use Rattle.std.proofs.Common.{sym}
use Rattle.rep_schema.specs.Tables.{columns_of, rows_of}
use Rattle.subquery_snapshots.proofs.Walking.{rows_above-none}
use Rattle.subquery_snapshots.proofs.search.place_above.Goals as goal

pub returns-in-Some : goal.returns-in-Some
returns-in-Some g c = rw c.in-Some.is c.place_behind.ensures

pub returns-in-None : goal.returns-in-None
returns-in-None g c = rw c.in-None.is (sym (rows_above-none (columns_of (g.S.PlacedRows.schema c.args.store.now) c.args.table) (rows_of (g.S.PlacedRows.tables c.args.store.now) c.args.table)))
