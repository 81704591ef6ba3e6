-- Changing a row by parts.
use Rattle.std.proofs.Common.{◌≡◌, Ok, Some, false, sym, ◌∙◌}
use Rattle.rep_schema.specs.Tables.{columns_of, find_row, rows_of}
use Rattle.unique_resolve.specs.Settling.{settlement_of}
use Rattle.unique_resolve.proofs.RisingCounters.{counters_stand_still_without_sequences}
use Rattle.txn_effects.specs.Parts.{settled_parts}
use Rattle.txn_apply.proofs.CallOutcomes.{row_to_put-Some, settled_changes-None, CanBePut-settled, RowFits-found, RowFits-parts, row_like-parts, call_effect-Update, call_effect-Update_other, call_effect-Update_same}
use Rattle.txn_apply.proofs.call.update_row.Goals as goal

pub settle_parts-requires-clause-row : goal.settle_parts-requires-clause-row
settle_parts-requires-clause-row g c =
    let able = c.requires.able in
    let schema = g.R.RowStore.schema c.args.store.now in
    let tables = g.R.RowStore.tables c.args.store.now in
    let table = c.args.update.table in
    let there : find_row (columns_of schema table) c.args.update.key.now (rows_of tables table) ≡ Some c.in-Some.found.now = sym c.in-Some.ensures in
    rw (c.schema.ensures.value, c.in_ok-row.ensures) (RowFits-found schema tables c.args.counters.now c.args.origin.now table able.shape able.are able.counters able.fits.table able.apart c.args.update.key.now c.args.update.parts.now able.fits c.in-Some.found.now c.in-Some.found.now there)

pub settle_unique-settled-requires-clause-before : goal.settle_unique-settled-requires-clause-before
settle_unique-settled-requires-clause-before g c κs within =
    let able = c.requires.able in
    let schema = g.R.RowStore.schema c.args.store.now in
    let tables = g.R.RowStore.tables c.args.store.now in
    let table = c.args.update.table in
    let there : find_row (columns_of schema table) c.args.update.key.now (rows_of tables table) ≡ Some c.in-Some.found.now = sym c.in-Some.ensures in
    let gives : settled_parts schema table c.args.update.parts.now c.in-Some.found.now ≡ Ok c.settle_parts.new.row = rw (c.schema.ensures.value, c.in_ok-row.ensures) at c.in_ok-settle_parts.ensures.ok in
    row_like-parts schema tables c.args.counters.now c.args.origin.now table able.shape able.are able.counters able.fits.table able.apart c.args.update.key.now c.args.update.parts.now able.fits c.in-Some.found.now c.settle_parts.new.row there gives

pub settle_unique-settled-requires-clause-fits : goal.settle_unique-settled-requires-clause-fits
settle_unique-settled-requires-clause-fits g c κs within =
    let able = c.requires.able in
    let schema = g.R.RowStore.schema c.args.store.now in
    let tables = g.R.RowStore.tables c.args.store.now in
    let table = c.args.update.table in
    let there : find_row (columns_of schema table) c.args.update.key.now (rows_of tables table) ≡ Some c.in-Some.found.now = sym c.in-Some.ensures in
    let gives : settled_parts schema table c.args.update.parts.now c.in-Some.found.now ≡ Ok c.settle_parts.new.row = rw (c.schema.ensures.value, c.in_ok-row.ensures) at c.in_ok-settle_parts.ensures.ok in
    RowFits-parts schema tables c.args.counters.now c.args.origin.now table able.shape able.are able.counters able.fits.table able.apart c.args.update.key.now c.args.update.parts.now able.fits c.in-Some.found.now c.settle_parts.new.row there gives

-- without append-sequence no counter moves
pub returns-in_err-row-2-clause-still : goal.returns-in_err-row-2-clause-still
returns-in_err-row-2-clause-still g c none =
    c.settle_unique-settled.ensures.counters ∙ counters_stand_still_without_sequences (g.R.RowStore.schema c.args.store.now) (g.R.RowStore.tables c.args.store.now) c.args.counters.now c.args.origin.now c.args.update.table false c.settle_parts.new.row none

pub returns-in_default-2-clause-still : goal.returns-in_default-2-clause-still
returns-in_default-2-clause-still g c none =
    c.settle_unique-settled.ensures.counters ∙ counters_stand_still_without_sequences (g.R.RowStore.schema c.args.store.now) (g.R.RowStore.tables c.args.store.now) c.args.counters.now c.args.origin.now c.args.update.table false c.settle_parts.new.row none

pub returns-then-is_same_row-clause-still : goal.returns-then-is_same_row-clause-still
returns-then-is_same_row-clause-still g c none =
    c.settle_unique-settled.ensures.counters ∙ counters_stand_still_without_sequences (g.R.RowStore.schema c.args.store.now) (g.R.RowStore.tables c.args.store.now) c.args.counters.now c.args.origin.now c.args.update.table false c.settle_parts.new.row none

pub returns-in_err-change-clause-still : goal.returns-in_err-change-clause-still
returns-in_err-change-clause-still g c none =
    c.settle_unique-settled.ensures.counters ∙ counters_stand_still_without_sequences (g.R.RowStore.schema c.args.store.now) (g.R.RowStore.tables c.args.store.now) c.args.counters.now c.args.origin.now c.args.update.table false c.settle_parts.new.row none

pub returns-clause-still : goal.returns-clause-still
returns-clause-still g c none =
    c.settle_unique-settled.ensures.counters ∙ counters_stand_still_without_sequences (g.R.RowStore.schema c.args.store.now) (g.R.RowStore.tables c.args.store.now) c.args.counters.now c.args.origin.now c.args.update.table false c.settle_parts.new.row none

-- a row that is given up
pub returns-in_default-2-clause-ok : goal.returns-in_default-2-clause-ok
returns-in_default-2-clause-ok g c =
    let able = c.requires.able in
    let schema = g.R.RowStore.schema c.args.store.now in
    let tables = g.R.RowStore.tables c.args.store.now in
    let table = c.args.update.table in
    let there : find_row (columns_of schema table) c.args.update.key.now (rows_of tables table) ≡ Some c.in-Some.found.now = sym c.in-Some.ensures in
    let gives : settled_parts schema table c.args.update.parts.now c.in-Some.found.now ≡ Ok c.settle_parts.new.row = rw (c.schema.ensures.value, c.in_ok-row.ensures) at c.in_ok-settle_parts.ensures.ok in
    let puts = rw (c.schema-2.ensures.value, c.settle_unique-settled.ensures.settled, c.in_default-2.is) at c.in_ok-row-2.ensures in
    rw c.settle_unique-settled.ensures.counters (call_effect-Update schema tables c.args.counters.now c.args.origin.now table able.shape able.are able.counters able.fits.table able.apart c.args.update.key.now c.args.update.parts.now able.fits c.in-Some.found.now c.settle_parts.new.row there gives
    ∙ settled_changes-None schema table (Some c.in-Some.found.now) (settlement_of schema tables c.args.counters.now c.args.origin.now table false c.settle_parts.new.row).numbers
    (settlement_of schema tables c.args.counters.now c.args.origin.now table false c.settle_parts.new.row).settled puts)

-- the very same row
pub returns-then-is_same_row-clause-ok : goal.returns-then-is_same_row-clause-ok
returns-then-is_same_row-clause-ok g c =
    let able = c.requires.able in
    let schema = g.R.RowStore.schema c.args.store.now in
    let tables = g.R.RowStore.tables c.args.store.now in
    let table = c.args.update.table in
    let there : find_row (columns_of schema table) c.args.update.key.now (rows_of tables table) ≡ Some c.in-Some.found.now = sym c.in-Some.ensures in
    let gives : settled_parts schema table c.args.update.parts.now c.in-Some.found.now ≡ Ok c.settle_parts.new.row = rw (c.schema.ensures.value, c.in_ok-row.ensures) at c.in_ok-settle_parts.ensures.ok in
    let puts = rw (c.schema-2.ensures.value, c.settle_unique-settled.ensures.settled, c.in-Some-2.is) at c.in_ok-row-2.ensures in
    rw c.settle_unique-settled.ensures.counters (call_effect-Update_same schema tables c.args.counters.now c.args.origin.now table able.shape able.are able.counters able.fits.table able.apart c.args.update.key.now c.args.update.parts.now able.fits c.in-Some.found.now c.settle_parts.new.row there gives c.in-Some-2.row puts (sym c.is_same_row.ensures ∙ c.if-is_same_row.true))

-- another row can be put
pub put_with_change-requires-clause-fits : goal.put_with_change-requires-clause-fits
put_with_change-requires-clause-fits g c κs within =
    let able = c.requires.able in
    let schema = g.R.RowStore.schema c.args.store.now in
    let tables = g.R.RowStore.tables c.args.store.now in
    let table = c.args.update.table in
    let there : find_row (columns_of schema table) c.args.update.key.now (rows_of tables table) ≡ Some c.in-Some.found.now = sym c.in-Some.ensures in
    let gives : settled_parts schema table c.args.update.parts.now c.in-Some.found.now ≡ Ok c.settle_parts.new.row = rw (c.schema.ensures.value, c.in_ok-row.ensures) at c.in_ok-settle_parts.ensures.ok in
    let puts = rw (c.schema-2.ensures.value, c.settle_unique-settled.ensures.settled, c.in-Some-2.is) at c.in_ok-row-2.ensures in
    (CanBePut-settled schema tables c.args.counters.now c.args.origin.now table able.shape able.are able.counters able.fits.table false c.settle_parts.new.row c.in-Some-2.row (RowFits-parts schema tables c.args.counters.now c.args.origin.now table able.shape able.are able.counters able.fits.table able.apart c.args.update.key.now c.args.update.parts.now able.fits c.in-Some.found.now c.settle_parts.new.row there gives)
    (row_to_put-Some schema table (settlement_of schema tables c.args.counters.now c.args.origin.now table false c.settle_parts.new.row).settled c.in-Some-2.row puts)).fits

pub put_with_change-requires-clause-unique : goal.put_with_change-requires-clause-unique
put_with_change-requires-clause-unique g c κs within =
    let able = c.requires.able in
    let schema = g.R.RowStore.schema c.args.store.now in
    let tables = g.R.RowStore.tables c.args.store.now in
    let table = c.args.update.table in
    let there : find_row (columns_of schema table) c.args.update.key.now (rows_of tables table) ≡ Some c.in-Some.found.now = sym c.in-Some.ensures in
    let gives : settled_parts schema table c.args.update.parts.now c.in-Some.found.now ≡ Ok c.settle_parts.new.row = rw (c.schema.ensures.value, c.in_ok-row.ensures) at c.in_ok-settle_parts.ensures.ok in
    let puts = rw (c.schema-2.ensures.value, c.settle_unique-settled.ensures.settled, c.in-Some-2.is) at c.in_ok-row-2.ensures in
    (CanBePut-settled schema tables c.args.counters.now c.args.origin.now table able.shape able.are able.counters able.fits.table false c.settle_parts.new.row c.in-Some-2.row (RowFits-parts schema tables c.args.counters.now c.args.origin.now table able.shape able.are able.counters able.fits.table able.apart c.args.update.key.now c.args.update.parts.now able.fits c.in-Some.found.now c.settle_parts.new.row there gives)
    (row_to_put-Some schema table (settlement_of schema tables c.args.counters.now c.args.origin.now table false c.settle_parts.new.row).settled c.in-Some-2.row puts)).unique

pub returns-clause-ok : goal.returns-clause-ok
returns-clause-ok g c =
    let able = c.requires.able in
    let schema = g.R.RowStore.schema c.args.store.now in
    let tables = g.R.RowStore.tables c.args.store.now in
    let table = c.args.update.table in
    let there : find_row (columns_of schema table) c.args.update.key.now (rows_of tables table) ≡ Some c.in-Some.found.now = sym c.in-Some.ensures in
    let gives : settled_parts schema table c.args.update.parts.now c.in-Some.found.now ≡ Ok c.settle_parts.new.row = rw (c.schema.ensures.value, c.in_ok-row.ensures) at c.in_ok-settle_parts.ensures.ok in
    let puts = rw (c.schema-2.ensures.value, c.settle_unique-settled.ensures.settled, c.in-Some-2.is) at c.in_ok-row-2.ensures in
    rw c.settle_unique-settled.ensures.counters (call_effect-Update_other schema tables c.args.counters.now c.args.origin.now table able.shape able.are able.counters able.fits.table able.apart c.args.update.key.now c.args.update.parts.now able.fits c.in-Some.found.now c.settle_parts.new.row there gives c.in-Some-2.row puts c.in_ok-change.change (sym c.is_same_row.ensures ∙ c.if-is_same_row.false) c.in_ok-change.ensures.ok)
