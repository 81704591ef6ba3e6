use Rattle.std.proofs.Common.{sym, ◌∙◌}
use Rattle.txn_effects.specs.Chosen.{chosen_at}
use Rattle.local_txn.proofs.FilledRows.{has_stamp-here, has_stamp-more}
use Rattle.local_txn.proofs.filled.has_stamp.Goals as goal

pub returns-then-gets_stamp : goal.returns-then-gets_stamp
returns-then-gets_stamp c =
    sym (c.loop-i.invariant.rest ∙ has_stamp-here (chosen_at c.args.chosen.now) c.args.columns.now c.loop-i.i c.index-columns-i.result c.loop-i-test.true c.index-columns-i.is (sym c.gets_stamp.ensures ∙ c.if-gets_stamp.true))

pub loop-i-preserved : goal.loop-i-preserved
loop-i-preserved c = record {
  rest = c.loop-i.invariant.rest ∙ has_stamp-more (chosen_at c.args.chosen.now) c.args.columns.now c.loop-i.i c.index-columns-i.result c.loop-i-test.true c.index-columns-i.is (sym c.gets_stamp.ensures ∙ c.if-gets_stamp.false);
}
