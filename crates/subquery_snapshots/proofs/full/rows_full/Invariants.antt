-- Picking row by row.
use Rattle.std.proofs.Common.{◌≡◌, ◌++◌, drop, filter}
use Rattle.rep_schema.specs.Tables.{rows_of}
use Rattle.subquery_snapshots.specs.Rules.{rule_picks}
use Rattle.subquery_snapshots.proofs.full.rows_full.Given as goal

-- what was picked, with what the rule picks of the rows that are left, is what it picks of all
abbrev pub invariant-loop-place : goal.invariant-loop-place
invariant-loop-place g l =
    let rows = rows_of (g.R.RowStore.tables l.master) l.table in
    let picks = rule_picks (g.R.RowStore.schema l.master) (g.R.RowStore.tables l.master) l.rule in
    l.rows ++ filter picks (drop l.place rows) ≡ filter picks rows
