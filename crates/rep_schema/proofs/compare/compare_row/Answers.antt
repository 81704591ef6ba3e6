use Rattle.std.proofs.Common.{◌<◌, ◌≤◌, length, drop, min, pos, sym, ◌∙◌, ap, arith}
use Rattle.rep_values.specs.declared.value.Value.TheVariants.{Num}
use Rattle.rep_values.specs.Order.{key_cmp}
use Rattle.rep_schema.proofs.KeyWalk.{key_cmp-key_ends, key_cmp-step, key_from-other, key_cmp-both_end, key_cmp-row_ends}
use Rattle.rep_schema.proofs.compare.compare_row.Goals as goal
use Rattle.rep_schema.proofs.compare.compare_row.Goals.{then-columns-i+else-read-key+in-Equal, else-columns-i}

-- the key ends before the row's
pub returns-then-read-key : goal.returns-then-read-key
returns-then-read-key c =
    let in_columns : c.loop-i.i < length c.args.columns.now = omega arith in
    let in_row : c.loop-i.i < length c.args.row.now = omega arith in
    sym (c.loop-i.invariant.rest ∙ key_cmp-key_ends _ _ _ _ (Num (pos 0)) in_columns in_row _ _ c.if-columns-i.true c.if-read-key.true)

pub loop-i-preserved : goal.loop-i-preserved
loop-i-preserved c =
    let in_columns : c.loop-i.i < length c.args.columns.now = omega arith in
    let in_row : c.loop-i.i < length c.args.row.now = omega arith in
    elim c.if-columns-i.branch [
      | then-columns-i+else-read-key+in-Equal w ↦
          let in_key : c.loop-i.read < length c.args.key.now = omega arith in
          record {
            within = omega arith;
            rest = c.loop-i.invariant.rest
                ∙ key_cmp-step _ _ _ _ w.index-row-i.result in_columns in_row _ _ w.index-key-read.result w.if-columns-i.true in_key w.index-row-i.is w.index-key-read.is
                ∙ rw (← w.compare_values.ensures, w.in-Equal.is, w.read-is);
          }
      | else-columns-i w ↦ record {
        within = omega arith;
        rest = rw w.read-is (c.loop-i.invariant.rest ∙ ap (λ k. key_cmp k (drop c.loop-i.read c.args.key.now)) (key_from-other _ _ _ _ (Num (pos 0)) in_columns in_row w.if-columns-i.false));
      }
    ]

pub returns-then-read-key-2 : goal.returns-then-read-key-2
returns-then-read-key-2 c =
    let past : min (length c.args.columns.now) (length c.args.row.now) ≤ c.loop-i.i = omega arith in
    sym (c.loop-i.invariant.rest ∙ key_cmp-both_end _ _ _ _ _ past c.if-read-key-2.true)

pub returns-else-read-key-2 : goal.returns-else-read-key-2
returns-else-read-key-2 c =
    let past : min (length c.args.columns.now) (length c.args.row.now) ≤ c.loop-i.i = omega arith in
    let more : c.loop-i.read < length c.args.key.now = omega arith in
    sym (c.loop-i.invariant.rest ∙ key_cmp-row_ends _ _ _ _ _ past more)
