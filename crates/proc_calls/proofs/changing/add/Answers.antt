use Rattle.std.proofs.Common.{◌∙◌, arith, refl, sym}
use Rattle.std.specs.Int.{w64}
use Rattle.std.proofs.Math.Facts.{to_z-of_z}
use Rattle.proc_calls.proofs.Trails.{keeps_still}
use Rattle.proc_calls.proofs.Raising.{add_fails, add_done}
use Rattle.proc_calls.proofs.changing.add.Goals as goal

pub returns-then-not-all_take_amount-clause-err : goal.returns-then-not-all_take_amount-clause-err
returns-then-not-all_take_amount-clause-err g c =
    add_fails c.args.tests.now c.args.column c.args.amount (g.R.RowStore.tables c.args.store.now) c.args.table (rw (to_z-of_z {w = w64} c.ranges.amount) at (sym c.all_take_amount.ensures ∙ c.if-not-all_take_amount.true))

pub returns-then-not-all_take_amount-clause-trail : goal.returns-then-not-all_take_amount-clause-trail
returns-then-not-all_take_amount-clause-trail g c = keeps_still _ _ _ refl refl (λ t. omega arith)

pub raise_each-requires-clause-range : goal.raise_each-requires-clause-range
raise_each-requires-clause-range g c = λ κs lives. sym c.all_take_amount.ensures ∙ c.if-not-all_take_amount.false

pub returns-clause-ok : goal.returns-clause-ok
returns-clause-ok g c =
    let amount_is = to_z-of_z {w = w64} c.ranges.amount in
    add_done c.args.tests.now c.args.column c.args.amount (g.R.RowStore.tables c.args.store.now) c.args.table (rw amount_is at (sym c.all_take_amount.ensures ∙ c.if-not-all_take_amount.false)) (g.R.RowStore.tables c.raise_each.new.store)
    (rw amount_is at c.in_ok-raise_each.ensures.tables)
