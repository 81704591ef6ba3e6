use Rattle.std.proofs.Common.{◌<◌, length, sym, ◌∙◌}
use Rattle.rep_schema.proofs.RowWalk.{row_cmp_from-key, row_cmp_from-other}
use Rattle.rep_schema.proofs.compare.compare_rows.Goals as goal
use Rattle.rep_schema.proofs.compare.compare_rows.Goals.{then-columns-i+in-Equal, else-columns-i}

-- equal values of a key column, and other columns, decide nothing
pub loop-i-preserved : goal.loop-i-preserved
loop-i-preserved c =
    let within : c.loop-i.i < length c.args.columns.now = c.loop-i-test.true in
    elim c.if-columns-i.branch [
      | then-columns-i+in-Equal w ↦ c.loop-i.invariant
          ∙ row_cmp_from-key c.args.columns.now c.args.a.now c.args.b.now c.loop-i.i c.index-columns-i.result within w.if-columns-i.true
          ∙ rw (← w.compare_at.ensures, w.in-Equal.is)
      | else-columns-i w ↦ c.loop-i.invariant
          ∙ row_cmp_from-other c.args.columns.now c.args.a.now c.args.b.now c.loop-i.i c.index-columns-i.result within w.if-columns-i.false
    ]

pub returns-in-Less : goal.returns-in-Less
returns-in-Less c =
    let within : c.loop-i.i < length c.args.columns.now = c.loop-i-test.true in
    sym (c.loop-i.invariant
    ∙ row_cmp_from-key c.args.columns.now c.args.a.now c.args.b.now c.loop-i.i c.index-columns-i.result within c.if-columns-i.true
    ∙ rw (← c.compare_at.ensures, c.in-Less.is))

pub returns-in-Greater : goal.returns-in-Greater
returns-in-Greater c =
    let within : c.loop-i.i < length c.args.columns.now = c.loop-i-test.true in
    sym (c.loop-i.invariant
    ∙ row_cmp_from-key c.args.columns.now c.args.a.now c.args.b.now c.loop-i.i c.index-columns-i.result within c.if-columns-i.true
    ∙ rw (← c.compare_at.ensures, c.in-Greater.is))
