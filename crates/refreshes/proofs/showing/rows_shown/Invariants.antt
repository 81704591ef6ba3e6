-- Picking row by row.
use Rattle.std.proofs.Common.{◌≡◌, ◌++◌, drop}
use Rattle.rep_schema.specs.Tables.{rows_of}
use Rattle.snapshot_query.specs.Queries.{query_rows}
use Rattle.refreshes.proofs.showing.rows_shown.Given as goal

-- what was picked, with what the query picks from the rows that are left, is what it picks from all
abbrev pub invariant-loop-place : goal.invariant-loop-place
invariant-loop-place g l =
    let rows = rows_of (g.R.RowStore.tables l.store) l.table in
    l.rows ++ query_rows l.query (drop l.place rows) ≡ query_rows l.query rows
