use Rattle.std.proofs.Common.{◌≡◌, true, false, refl, sym, ◌∙◌}
use Rattle.std.specs.Prelude.{is_some}
use Rattle.rep_schema.specs.Kinds.{is_filled}
use Rattle.txn_effects.specs.ByColumn.{set_at}
use Rattle.local_txn.proofs.SetWalk.{fills_some-more, is_some-copied}
use Rattle.local_txn.proofs.sets.fills_some.Goals as goal
use Rattle.local_txn.proofs.sets.fills_some.Goals.{else-is_filled-via-then-is_filled+else-is_some, else-is_filled-via-else-is_filled}

pub returns-then-is_some : goal.returns-then-is_some
returns-then-is_some c =
    let column = c.index-columns-i.result in
    let more = fills_some-more c.args.columns.now c.args.sets.now c.loop-i.i column c.loop-i-test.true c.index-columns-i.is in
    let filled : is_filled column ≡ true = sym c.is_filled.ensures ∙ c.if-is_filled.true in
    let some : is_some (set_at c.args.sets.now c.loop-i.i) ≡ true = rw (← c.at.ensures) (sym (is_some-copied c.at.result) ∙ sym c.is_some.ensures ∙ c.if-is_some.true) in
    sym (c.loop-i.invariant.rest ∙ more ∙ rw (filled, some) refl)

pub loop-i-preserved : goal.loop-i-preserved
loop-i-preserved c =
    let column = c.index-columns-i.result in
    let more = fills_some-more c.args.columns.now c.args.sets.now c.loop-i.i column c.loop-i-test.true c.index-columns-i.is in
    record {
      rest = c.loop-i.invariant.rest ∙ more ∙ elim c.else-is_filled.branch [
        | else-is_filled-via-then-is_filled+else-is_some w ↦
            let filled : is_filled column ≡ true = sym c.is_filled.ensures ∙ w.if-is_filled.true in
            let none : is_some (set_at c.args.sets.now c.loop-i.i) ≡ false = rw (← w.at.ensures) (sym (is_some-copied w.at.result) ∙ sym w.is_some.ensures ∙ w.if-is_some.false) in
            rw (filled, none) refl
        | else-is_filled-via-else-is_filled w ↦
            let other : is_filled column ≡ false = sym c.is_filled.ensures ∙ w.if-is_filled.false in
            rw other refl
      ];
    }
