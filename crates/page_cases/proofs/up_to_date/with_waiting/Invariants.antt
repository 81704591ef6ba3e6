-- Adding key by key.
use Rattle.std.proofs.Common.{◌≡◌, ◌++◌, drop, map}
use Rattle.rep_schema.specs.Tables.{columns_of, key_of, rows_of}
use Rattle.subquery_snapshots.specs.Rules.{rows_of_parents}
use Rattle.page_cases.proofs.up_to_date.with_waiting.Given as goal

-- the keys so far, with those of the rows left that wait, are all
abbrev pub invariant-loop-place : goal.invariant-loop-place
invariant-loop-place g l =
    let columns = columns_of (g.R.RowStore.schema l.master) l.table in
    let rows = rows_of (g.R.RowStore.tables l.master) l.table in
    l.all ++ map (key_of columns) (rows_of_parents l.parent l.parents (drop l.place rows)) ≡ l.keys ++ map (key_of columns) (rows_of_parents l.parent l.parents rows)
