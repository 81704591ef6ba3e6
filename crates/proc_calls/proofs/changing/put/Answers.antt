use Rattle.std.proofs.Common.{◌∙◌, arith, refl}
use Rattle.rep_schema.specs.Putting.{StoreState}
use Rattle.rep_schema.specs.Tables.{rows_of}
use Rattle.proc_calls.proofs.Trails.{keeps_still, keeps_put, unconstrained_row}
use Rattle.proc_calls.proofs.changing.put.Goals as goal

pub returns-in_err-reserve-clause-trail : goal.returns-in_err-reserve-clause-trail
returns-in_err-reserve-clause-trail g c = rw c.reserve.ensures.items (keeps_still _ _ _ c.reserve.ensures.schema c.reserve.ensures.tables c.reserve.ensures.kept)

-- a table without secondary constraints bars no row
pub put_with_change-requires-clause-unique : goal.put_with_change-requires-clause-unique
put_with_change-requires-clause-unique g c = λ κs lives. rw (c.reserve.ensures.schema, c.reserve.ensures.tables) (unconstrained_row _ _ _ _ c.requires.unconstrained)

pub put_with_change-requires-clause-room : goal.put_with_change-requires-clause-room
put_with_change-requires-clause-room g c = λ κs lives. omega (arith, c.in_ok-reserve.ensures.beside)

pub returns-in_err-change-clause-trail : goal.returns-in_err-change-clause-trail
returns-in_err-change-clause-trail g c =
    rw c.reserve.ensures.items
    (keeps_still _ _ _ (c.put_with_change.ensures.schema ∙ c.reserve.ensures.schema) (c.in_err-change.ensures.same ∙ c.reserve.ensures.tables) (λ t. rw c.in_err-change.ensures.same_room (c.reserve.ensures.kept t)))

pub returns-clause-tables : goal.returns-clause-tables
returns-clause-tables g c = c.in_ok-change.ensures.tables ∙ rw (c.in_ok-change.ensures.ok, c.reserve.ensures.schema, c.reserve.ensures.tables) refl

pub returns-clause-trail : goal.returns-clause-trail
returns-clause-trail g c =
    let S = g.R.RowStore in
    let old : StoreState = record { schema = S.schema c.args.store.now; tables = S.tables c.args.store.now; spare = S.spare c.args.store.now } in
    let mid : StoreState = record { schema = S.schema c.reserve.new.store; tables = S.tables c.reserve.new.store; spare = S.spare c.reserve.new.store } in
    let new : StoreState = record { schema = S.schema c.put_with_change.new.store; tables = S.tables c.put_with_change.new.store; spare = S.spare c.put_with_change.new.store } in
    rw (c.push.ensures, c.reserve.ensures.items)
    (keeps_put old mid new c.args.trail.now.items c.args.table c.requires.table c.requires.keyed c.reserve.ensures.schema c.reserve.ensures.tables c.reserve.ensures.kept c.in_ok-reserve.ensures.beside c.put_with_change.ensures.schema
    c.args.row c.in_ok-change.change c.requires.fits (unconstrained_row old.schema c.args.table c.args.row (rows_of old.tables c.args.table) c.requires.unconstrained) c.in_ok-change.ensures.ok c.in_ok-change.ensures.tables c.put_with_change.ensures.room)
