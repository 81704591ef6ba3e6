use Rattle.std.proofs.Common.{refl, sym, ◌∙◌}
use Rattle.local_txn.proofs.SetWalk.{takes_each-more}
use Rattle.local_txn.proofs.sets.takes_each.Goals as goal

pub returns-then-not-takes_set : goal.returns-then-not-takes_set
returns-then-not-takes_set c =
    let more = takes_each-more c.args.columns.now c.args.sets.now c.loop-i.i c.index-columns-i.result c.loop-i-test.true c.index-columns-i.is in
    sym (c.loop-i.invariant.rest ∙ more ∙ rw (← c.at.ensures, ← c.takes_set.ensures, c.if-not-takes_set.true) refl)

pub loop-i-preserved : goal.loop-i-preserved
loop-i-preserved c =
    let more = takes_each-more c.args.columns.now c.args.sets.now c.loop-i.i c.index-columns-i.result c.loop-i-test.true c.index-columns-i.is in
    record { rest = c.loop-i.invariant.rest ∙ more ∙ rw (← c.at.ensures, ← c.takes_set.ensures, c.if-not-takes_set.false) refl }
