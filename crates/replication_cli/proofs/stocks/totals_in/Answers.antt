-- The next row is counted.
use Rattle.std.proofs.Common.{arith}
use Rattle.std.proofs.lemmas.Int.{ints, to_z-of_z}
use Rattle.replication_cli.proofs.TotalLemmas.{total_more, greatest_more}
use Rattle.replication_cli.proofs.stocks.totals_in.Goals as goal

pub loop-place-preserved : goal.loop-place-preserved
loop-place-preserved g c = record {
  qty = total_more _ _ _ _ _ _ _ c.row_at-row.ensures c.loop-place.invariant.qty c.number_in.ensures (omega (arith, ints));
  top = greatest_more _ _ _ _ _ _ _ c.row_at-row.ensures c.loop-place.invariant.top c.number_in-in-loop-place.ensures (search (arith, ints, to_z-of_z, c.raised-top.ensures));
  low = omega (arith, ints);
  high = omega (arith, ints);
}
