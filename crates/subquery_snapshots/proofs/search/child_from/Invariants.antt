-- Looking row by row.
use Rattle.std.proofs.Common.{◌≡◌, drop, find}
use Rattle.rep_schema.specs.Tables.{rows_of}
use Rattle.subquery_snapshots.specs.Children.{is_child}
use Rattle.subquery_snapshots.proofs.search.child_from.Given as goal

-- the first child from here on is the first of all
abbrev pub invariant-loop-place : goal.invariant-loop-place
invariant-loop-place g l =
    let rows = rows_of (g.S.PlacedRows.tables l.store) l.table in
    find (is_child l.columns l.parent) (drop l.place rows) ≡ find (is_child l.columns l.parent) (drop l.fn.first rows)
