use Rattle.std.proofs.Common.{arith, refl}
use Rattle.proc_calls.proofs.applying.apply_txn.Goals as goal

pub apply_each-requires-clause-form : goal.apply_each-requires-clause-form
apply_each-requires-clause-form g c = λ κs lives. rw c.as_slice.ensures c.requires.fits.form

pub apply_each-requires-clause-few : goal.apply_each-requires-clause-few
apply_each-requires-clause-few g c = λ κs lives. rw c.as_slice.ensures c.requires.fits.most

pub returns-in-Ok-clause-ok : goal.returns-in-Ok-clause-ok
returns-in-Ok-clause-ok g c = rw c.as_slice.ensures at c.in-Ok.ensures.ok

pub returns-in-Ok-clause-leads : goal.returns-in-Ok-clause-leads
returns-in-Ok-clause-leads g c = rw c.into_changes.ensures (c.apply_each.ensures.trail.leads _ (rw c.new-trail.ensures refl))

pub returns-in-Ok-clause-room : goal.returns-in-Ok-clause-room
returns-in-Ok-clause-room g c = rw c.into_changes.ensures (c.apply_each.ensures.trail.room (λ t. rw c.new-trail.ensures (omega arith)))

pub undo-requires-clause-led : goal.undo-requires-clause-led
undo-requires-clause-led g c = λ κs lives. rw c.into_changes-in-Err.ensures (record {
  earlier = g.R.RowStore.tables c.args.store.now;
  are = rw c.apply_each.ensures.trail.schema c.holds_tables.ensures;
  lead = rw c.apply_each.ensures.trail.schema (c.apply_each.ensures.trail.leads _ (rw c.new-trail.ensures refl));
})

pub undo-requires-clause-room : goal.undo-requires-clause-room
undo-requires-clause-room g c = λ κs lives t below. rw c.into_changes-in-Err.ensures (c.apply_each.ensures.trail.room (λ t. rw c.new-trail.ensures (omega arith)) t)

pub returns-in-Err-clause-err : goal.returns-in-Err-clause-err
returns-in-Err-clause-err g c = rw c.as_slice.ensures at c.in-Err.ensures.err

pub returns-in-Err-clause-kept : goal.returns-in-Err-clause-kept
returns-in-Err-clause-kept g c =
    c.undo.ensures.earlier (g.R.RowStore.tables c.args.store.now) (rw c.apply_each.ensures.trail.schema c.holds_tables.ensures)
    (rw (c.into_changes-in-Err.ensures, c.apply_each.ensures.trail.schema) (c.apply_each.ensures.trail.leads _ (rw c.new-trail.ensures refl)))
