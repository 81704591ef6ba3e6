use Rattle.std.proofs.Common.{◌<◌, ◌≤◌, length, min, pos, sym, ◌∙◌, arith}
use Rattle.std.proofs.lemmas.List.{append-nil}
use Rattle.rep_values.specs.declared.value.Value.TheVariants.{Num}
use Rattle.rep_schema.proofs.KeyWalk.{key_from-other, key_from-end, gathered-key_step}
use Rattle.rep_schema.proofs.compare.key_of.Goals as goal
use Rattle.rep_schema.proofs.compare.key_of.Goals.{then-columns-i, else-columns-i}

pub loop-i-preserved : goal.loop-i-preserved
loop-i-preserved c =
    let in_columns : c.loop-i.i < length c.args.columns.now = omega arith in
    let in_row : c.loop-i.i < length c.args.row.now = omega arith in
    elim c.if-columns-i.branch [
      | then-columns-i w ↦ rw (w.key-is, w.push.ensures)
          (gathered-key_step _ _ _ _ w.index-row-i.result in_columns in_row _ _ w.if-columns-i.true w.index-row-i.is c.loop-i.invariant)
      | else-columns-i w ↦ rw w.key-is (rw (key_from-other _ _ _ _ (Num (pos 0)) in_columns in_row w.if-columns-i.false) at c.loop-i.invariant)
    ]

pub returns : goal.returns
returns c =
    let past : min (length c.args.columns.now) (length c.args.row.now) ≤ c.loop-i.i = omega arith in
    sym (append-nil c.loop-i.key) ∙ (rw (key_from-end _ _ _ past) at c.loop-i.invariant)
