-- Going through the store's rows.
use Rattle.std.proofs.Common.{◌≡◌, ◌++◌, drop, map}
use Rattle.rep_schema.specs.Tables.{columns_of, key_of, rows_of}
use Rattle.refreshes.specs.Planned.{gone_keys, coming_rows}
use Rattle.refreshes.proofs.plan.add_all_present.Given as goal

-- what was planned, with what the rows that are left add to it, is what all rows come to
abbrev pub invariant-loop-place : goal.invariant-loop-place
invariant-loop-place g l =
    let columns = columns_of (g.R.RowStore.schema l.store) l.table in
    let rows = rows_of (g.R.RowStore.tables l.store) l.table in
    let left = map (key_of columns) (drop l.place rows) in
    record {
      gone : l.plan.gone.items ++ gone_keys columns rows l.rows left ≡ l.fn.plan.gone.items ++ gone_keys columns rows l.rows (map (key_of columns) rows);
      come : l.plan.come.items ++ coming_rows columns rows l.rows left ≡ l.fn.plan.come.items ++ coming_rows columns rows l.rows (map (key_of columns) rows);
    }
