-- The rows are the same where those that are left are.
use Rattle.std.proofs.Common.{◌≡◌, drop}
use Rattle.rep_schema.specs.Tables.{rows_of}
use Rattle.replication_cli.proofs.stocks.have_same_rows.Given as goal

abbrev pub invariant-loop-place : goal.invariant-loop-place
invariant-loop-place g l =
    drop l.place (rows_of (g.R.RowStore.tables l.a) 0) ≡ drop l.place (rows_of (g.R.RowStore.tables l.b) 0)
    → rows_of (g.R.RowStore.tables l.a) 0 ≡ rows_of (g.R.RowStore.tables l.b) 0
