use Rattle.std.proofs.Common.{sym}
use Rattle.proc_calls.proofs.Carried.{after_is}
use Rattle.proc_calls.proofs.applying.apply_call.Goals as goal

pub returns-clause-err : goal.returns-clause-err
returns-clause-err g c =
    let schema = g.R.RowStore.schema c.args.store.now in
    let row = c.in-Insert.row in
    let p = c.in-Some.procedure.now in
    let there = rw c.values.ensures.value at (sym c.in-Some.ensures) in
    let form = rw c.in-Insert.is at c.requires.form in
    let after = after_is schema c.args.procedures.now c.in-Insert.table row p there form (g.R.RowStore.tables c.args.store.now) in
    rw (c.in-Insert.is, after) (rw (c.carried_in.ensures, c.values-2.ensures.value) at c.act.ensures.err)
