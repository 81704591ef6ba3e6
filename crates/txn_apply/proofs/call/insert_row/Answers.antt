-- Inserting a row.
use Rattle.std.proofs.Common.{◌≡◌, Ok, Some, None, true, sym, ◌∙◌, subst}
use Rattle.rep_schema.specs.Tables.{columns_of, rows_of}
use Rattle.rep_schema.specs.Changes.{row_like}
use Rattle.rep_calls.specs.declared.call.Call.TheVariants.{Insert}
use Rattle.unique_resolve.specs.Numbers.{Numbers}
use Rattle.unique_resolve.specs.Settling.{settlement_of}
use Rattle.unique_resolve.proofs.RisingCounters.{counters_stand_still_without_sequences}
use Rattle.txn_effects.specs.Calls.{call_effect}
use Rattle.txn_apply.specs.Stops.{CallsAs}
use Rattle.txn_apply.specs.Putting.{row_to_put}
use Rattle.txn_apply.proofs.CallOutcomes.{row_to_put-Some, settled_changes-None, CanBePut-settled, call_effect-Insert}
use Rattle.txn_apply.proofs.call.insert_row.Goals as goal

-- without append-sequence no counter moves
pub returns-in_err-row-clause-still : goal.returns-in_err-row-clause-still
returns-in_err-row-clause-still g c none =
    c.settle_unique-settled.ensures.counters ∙ counters_stand_still_without_sequences (g.R.RowStore.schema c.args.store.now) (g.R.RowStore.tables c.args.store.now) c.args.counters.now c.args.origin.now c.args.table true c.in_ok-candidate.candidate none

pub returns-in_default-clause-still : goal.returns-in_default-clause-still
returns-in_default-clause-still g c none =
    c.settle_unique-settled.ensures.counters ∙ counters_stand_still_without_sequences (g.R.RowStore.schema c.args.store.now) (g.R.RowStore.tables c.args.store.now) c.args.counters.now c.args.origin.now c.args.table true c.in_ok-candidate.candidate none

pub returns-in_err-change-clause-still : goal.returns-in_err-change-clause-still
returns-in_err-change-clause-still g c none =
    c.settle_unique-settled.ensures.counters ∙ counters_stand_still_without_sequences (g.R.RowStore.schema c.args.store.now) (g.R.RowStore.tables c.args.store.now) c.args.counters.now c.args.origin.now c.args.table true c.in_ok-candidate.candidate none

pub returns-clause-still : goal.returns-clause-still
returns-clause-still g c none =
    c.settle_unique-settled.ensures.counters ∙ counters_stand_still_without_sequences (g.R.RowStore.schema c.args.store.now) (g.R.RowStore.tables c.args.store.now) c.args.counters.now c.args.origin.now c.args.table true c.in_ok-candidate.candidate none

-- a row that is given up
pub returns-in_default-clause-ok : goal.returns-in_default-clause-ok
returns-in_default-clause-ok g c =
    let schema = g.R.RowStore.schema c.args.store.now in
    let tables = g.R.RowStore.tables c.args.store.now in
    let settled = rw c.in_ok-candidate.ensures at c.settle_unique-settled.ensures.settled in
    let numbers = rw c.in_ok-candidate.ensures at c.settle_unique-settled.ensures.counters in
    let puts = rw (c.schema.ensures.value, settled, c.in_default.is) at c.in_ok-row.ensures in
    rw numbers (settled_changes-None schema c.args.table (row_like (columns_of schema c.args.table) c.args.row.now (rows_of tables c.args.table))
    (settlement_of schema tables c.args.counters.now c.args.origin.now c.args.table true c.args.row.now).numbers
    (settlement_of schema tables c.args.counters.now c.args.origin.now c.args.table true c.args.row.now).settled puts)

-- the row that is put can be put
pub put_with_change-requires-clause-fits : goal.put_with_change-requires-clause-fits
put_with_change-requires-clause-fits g c κs within =
    let able = c.requires.able in
    let schema = g.R.RowStore.schema c.args.store.now in
    let tables = g.R.RowStore.tables c.args.store.now in
    let settled = rw c.in_ok-candidate.ensures at c.settle_unique-settled.ensures.settled in
    let puts = rw (c.schema.ensures.value, settled, c.in-Some.is) at c.in_ok-row.ensures in
    (CanBePut-settled schema tables c.args.counters.now c.args.origin.now c.args.table able.shape able.are able.counters able.fits.table true c.args.row.now c.in-Some.row able.fits.content
    (row_to_put-Some schema c.args.table _ c.in-Some.row puts)).fits

pub put_with_change-requires-clause-unique : goal.put_with_change-requires-clause-unique
put_with_change-requires-clause-unique g c κs within =
    let able = c.requires.able in
    let schema = g.R.RowStore.schema c.args.store.now in
    let tables = g.R.RowStore.tables c.args.store.now in
    let settled = rw c.in_ok-candidate.ensures at c.settle_unique-settled.ensures.settled in
    let puts = rw (c.schema.ensures.value, settled, c.in-Some.is) at c.in_ok-row.ensures in
    (CanBePut-settled schema tables c.args.counters.now c.args.origin.now c.args.table able.shape able.are able.counters able.fits.table true c.args.row.now c.in-Some.row able.fits.content
    (row_to_put-Some schema c.args.table _ c.in-Some.row puts)).unique

pub returns-clause-ok : goal.returns-clause-ok
returns-clause-ok g c =
    let able = c.requires.able in
    let schema = g.R.RowStore.schema c.args.store.now in
    let tables = g.R.RowStore.tables c.args.store.now in
    let settled = rw c.in_ok-candidate.ensures at c.settle_unique-settled.ensures.settled in
    let numbers = rw c.in_ok-candidate.ensures at c.settle_unique-settled.ensures.counters in
    let puts = rw (c.schema.ensures.value, settled, c.in-Some.is) at c.in_ok-row.ensures in
    rw numbers (call_effect-Insert schema tables c.args.counters.now c.args.origin.now c.args.table able.shape able.are able.counters able.fits.table c.args.row.now c.in-Some.row c.in_ok-change.change able.fits.content puts c.in_ok-change.ensures.ok)
