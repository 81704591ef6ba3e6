use Rattle.std.proofs.Common.{◌≡◌, ◌<◌, length, Some, None, sym, ◌∙◌}
use Rattle.rep_schema.specs.Tables.{constraints_of}
use Rattle.txn_effects.specs.Statements.{taken_step}
use Rattle.rep_lists.proofs.Places.{found_at}
use Rattle.local_txn.proofs.ConstraintSteps.{first_refusal-here, first_refusal-more}
use Rattle.local_txn.proofs.rows.unique_refusal.Goals as goal

pub returns-in-Some : goal.returns-in-Some
returns-in-Some g c =
    let schema = g.R.RowStore.schema c.args.store.now in
    let constraints = constraints_of schema c.args.table in
    let step = taken_step schema (g.R.RowStore.tables c.args.store.now) c.args.table c.args.row.now in
    let below : c.loop-i.i < length constraints = rw (← c.schema.ensures.value, ← c.constraint_count-i-end.ensures) c.loop-i-test.true in
    let here = found_at constraints c.loop-i.i below in
    let refuses : step here.0 ≡ Some c.in-Some.refusal = sym (c.taken_in.ensures here.0 here.1) ∙ c.in-Some.is in
    sym (c.loop-i.invariant ∙ first_refusal-here step constraints c.loop-i.i here.0 here.1 c.in-Some.refusal refuses)

pub loop-i-preserved : goal.loop-i-preserved
loop-i-preserved g c =
    let schema = g.R.RowStore.schema c.args.store.now in
    let constraints = constraints_of schema c.args.table in
    let step = taken_step schema (g.R.RowStore.tables c.args.store.now) c.args.table c.args.row.now in
    let below : c.loop-i.i < length constraints = rw (← c.schema.ensures.value, ← c.constraint_count-i-end.ensures) c.loop-i-test.true in
    let here = found_at constraints c.loop-i.i below in
    let passes : step here.0 ≡ None = sym (c.taken_in.ensures here.0 here.1) ∙ c.in_default.is in
    c.loop-i.invariant ∙ first_refusal-more step constraints c.loop-i.i here.0 here.1 passes
