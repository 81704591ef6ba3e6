-- Going through the wanted rows.
use Rattle.std.proofs.Common.{◌≡◌, ◌++◌, drop}
use Rattle.rep_schema.specs.Tables.{columns_of, rows_of}
use Rattle.refreshes.specs.Planned.{absent_rows}
use Rattle.refreshes.proofs.plan.add_all_absent.Given as goal

-- what was planned, with what the rows that are left add to it, is what all rows come to
abbrev pub invariant-loop-row : goal.invariant-loop-row
invariant-loop-row g l =
    let columns = columns_of (g.R.RowStore.schema l.store) l.table in
    let rows = rows_of (g.R.RowStore.tables l.store) l.table in
    record {
      gone : l.plan.gone.items ≡ l.fn.plan.gone.items;
      come : l.plan.come.items ++ absent_rows columns rows (drop l.row-index l.rows) ≡ l.fn.plan.come.items ++ absent_rows columns rows l.rows;
    }
