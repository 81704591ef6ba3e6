use Rattle.std.proofs.Common.{◌≡◌, max, sym, ◌∙◌, arith, refl}
use Rattle.txn_effects.specs.Filled.{above_value}
use Rattle.txn_effects.specs.Chosen.{chosen_at}
use Rattle.local_txn.proofs.FilledRows.{ord_max-max, bound-more, bound-other}
use Rattle.local_txn.proofs.filled.bound.Goals as goal
use Rattle.local_txn.proofs.filled.bound.Goals.{then-gets_stamp, else-gets_stamp}

pub loop-i-preserved : goal.loop-i-preserved
loop-i-preserved c =
    let chosen = chosen_at c.args.chosen.now in
    elim c.if-gets_stamp.branch [
      | then-gets_stamp w ↦
          let more = bound-more chosen c.args.columns.now c.loop-i.i c.index-columns-i.result c.loop-i-test.true c.index-columns-i.is c.args.row.now c.requires w.index-row-i.result w.index-row-i.is (sym c.gets_stamp.ensures ∙ w.if-gets_stamp.true) in
          let now : c.if-gets_stamp.bound ≡ max c.loop-i.bound (above_value w.index-row-i.result) = w.bound-is ∙ w.max-bound.ensures ∙ rw w.above_value.ensures (ord_max-max c.loop-i.bound (above_value w.index-row-i.result)) in
          record { rest = c.loop-i.invariant.rest ∙ rw (now, more) (omega arith) }
      | else-gets_stamp w ↦
          let other = bound-other chosen c.args.columns.now c.loop-i.i c.index-columns-i.result c.loop-i-test.true c.index-columns-i.is c.args.row.now c.requires (sym c.gets_stamp.ensures ∙ w.if-gets_stamp.false) in
          record { rest = c.loop-i.invariant.rest ∙ rw (w.bound-is, other) refl }
    ]
