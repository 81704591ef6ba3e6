-- The sum and the greatest number so far, with the rows that are left, come to those of all rows.
use Rattle.std.proofs.Common.{◌≡◌, ◌*◌, ◌^◌, pos, neg_ℤ, ◌+ℤ◌, ◌≤ℤ◌, drop, fold, None}
use Rattle.rep_schema.specs.Tables.{rows_of}
use Rattle.replication_cli.specs.Stocks.{qty_of, top_of, greatest_with, total_qty}
use Rattle.replication_cli.proofs.stocks.totals_in.Given as goal

abbrev pub invariant-loop-place : goal.invariant-loop-place
invariant-loop-place g l = record {
  qty : fold (λ sum row. sum +ℤ qty_of row) l.qty (drop l.place (rows_of (g.R.RowStore.tables l.store) 0)) ≡ total_qty (rows_of (g.R.RowStore.tables l.store) 0);
  top : fold (λ top row. greatest_with top (top_of row)) l.top (drop l.place (rows_of (g.R.RowStore.tables l.store) 0))
      ≡ fold (λ top row. greatest_with top (top_of row)) None (rows_of (g.R.RowStore.tables l.store) 0);
  low : neg_ℤ (pos (l.place * 2 ^ 63)) ≤ℤ l.qty;
  high : l.qty ≤ℤ pos (l.place * 2 ^ 63);
}
