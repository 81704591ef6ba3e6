use Rattle.std.proofs.Common.{sym, ◌∙◌}
use Rattle.local_txn.proofs.ConstraintSteps.{taken_step-held, taken_step-free}
use Rattle.local_txn.proofs.rows.taken_in.Goals as goal

pub returns-then-is_violated : goal.returns-then-is_violated
returns-then-is_violated g c constraint there =
    let found = rw c.schema.ensures.value at c.constraint_at.ensures in
    taken_step-held (g.R.RowStore.schema c.args.store.now) (g.R.RowStore.tables c.args.store.now) c.args.at.table c.args.row.now c.args.at.place constraint c.constraint_at.result.now there found (sym c.is_violated.ensures ∙ c.if-is_violated.true)

pub returns : goal.returns
returns g c constraint there =
    taken_step-free (g.R.RowStore.schema c.args.store.now) (g.R.RowStore.tables c.args.store.now) c.args.at.table c.args.row.now c.args.at.place constraint there (sym c.is_violated.ensures ∙ c.if-is_violated.false)
