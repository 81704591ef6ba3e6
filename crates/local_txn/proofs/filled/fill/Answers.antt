use Rattle.std.proofs.Common.{◌≡◌, set, sym, ap, ◌∙◌}
use Rattle.std.proofs.lemmas.List.{length-set}
use Rattle.txn_effects.specs.Filled.{Filling, filling_value}
use Rattle.txn_effects.specs.Chosen.{chosen_at}
use Rattle.local_txn.proofs.FilledRows.{filled-more, filled-other}
use Rattle.local_txn.proofs.filled.fill.Goals as goal
use Rattle.local_txn.proofs.filled.fill.Goals.{then-gets_filled, else-gets_filled}

pub loop-i-preserved : goal.loop-i-preserved
loop-i-preserved c =
    let chosen = chosen_at c.args.chosen.now in
    let filling : Filling = record { stamp = c.args.stamp; site = c.args.site.now } in
    let column = c.index-columns-i.result in
    let i = c.loop-i.i in
    let row = c.loop-i.row in
    elim c.if-gets_filled.branch [
      | then-gets_filled w ↦
          let gets = sym c.gets_filled.ensures ∙ w.if-gets_filled.true in
          let now : c.if-gets_filled.row ≡ set row i (filling_value filling column) = w.row-is ∙ w.set.ensures ∙ ap (set row i) w.filling_value.ensures in
          rw now (record {
            size = c.loop-i.invariant.size ∙ sym (length-set row i (filling_value filling column));
            rest = filled-more filling chosen c.args.columns.now c.args.row.now row i column c.loop-i-test.true c.index-columns-i.is c.loop-i.invariant.size c.loop-i.invariant.rest gets;
          })
      | else-gets_filled w ↦
          let other = sym c.gets_filled.ensures ∙ w.if-gets_filled.false in
          rw w.row-is (record {
            size = c.loop-i.invariant.size;
            rest = filled-other filling chosen c.args.columns.now c.args.row.now row i column c.loop-i-test.true c.index-columns-i.is c.loop-i.invariant.size c.loop-i.invariant.rest other;
          })
    ]
