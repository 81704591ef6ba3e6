-- One constraint after another.
use Rattle.std.proofs.Common.{◌<◌, length, get_or, refl, ap, ◌∙◌, arith}
use Rattle.std.specs.Prelude.{option_copied}
use Rattle.rep_lists.proofs.Places.{found_at}
use Rattle.rep_schema.specs.Tables.{columns_of, constraints_of, rows_of}
use Rattle.unique_resolve.specs.declared.settled.Settled.TheVariants.{Fits, Dropped, Conflict}
use Rattle.unique_resolve.specs.Settling.{ConstraintOutcome, TableOutcome, settled_each}
use Rattle.unique_resolve.proofs.Settlements.{RowFits-settled_one, key_of-settled_one}
use Rattle.unique_resolve.proofs.Tries.{HasBefore-like}
use Rattle.unique_resolve.proofs.EachConstraint.{each-fits, each-dropped, each-conflict}
use Rattle.unique_resolve.proofs.trying.settle_each.Goals as goal

pub settle_one-requires-clause-testable : goal.settle_one-requires-clause-testable
settle_one-requires-clause-testable g c κs within = record {
  are = c.schema.ensures.sound;
  of_table = c.requires.asked.of_table;
  keyed = c.requires.asked.keyed;
  of_constraint =
      let count = rw c.schema.ensures.value at c.constraint_count-place-end.ensures in
      omega (arith, c.loop-place-test.true, count);
  fits = c.loop-place.invariant.fits;
}

-- the constraints before left the row to this one, which gives it up
pub returns-in-Dropped : goal.returns-in-Dropped
returns-in-Dropped g c =
    let schema = g.R.RowStore.schema c.args.store.now in
    let tables = g.R.RowStore.tables c.args.store.now in
    let whole : TableOutcome = settled_each (columns_of schema c.args.table) (rows_of tables c.args.table) c.args.origin.now (constraints_of schema c.args.table) c.args.numbers.now c.args.row in
    let count = rw c.schema.ensures.value at c.constraint_count-place-end.ensures in
    let here : c.loop-place.place < length (constraints_of schema c.args.table) = omega (arith, c.loop-place-test.true, count) in
    let found = found_at (constraints_of schema c.args.table) c.loop-place.place here in
    each-dropped (columns_of schema c.args.table) (rows_of tables c.args.table) c.args.origin.now (constraints_of schema c.args.table) c.loop-place.numbers c.loop-place.place found.0 c.loop-place.row
    found.1 (c.loop-place.auto.numbers ∙ c.requires.numbers) Dropped c.settle_one.new.number (c.in-Dropped.ensures found.0 found.1)
    whole c.loop-place.invariant.rest refl

-- or with which no method helps
pub returns-in-Conflict : goal.returns-in-Conflict
returns-in-Conflict g c =
    let schema = g.R.RowStore.schema c.args.store.now in
    let tables = g.R.RowStore.tables c.args.store.now in
    let whole : TableOutcome = settled_each (columns_of schema c.args.table) (rows_of tables c.args.table) c.args.origin.now (constraints_of schema c.args.table) c.args.numbers.now c.args.row in
    let count = rw c.schema.ensures.value at c.constraint_count-place-end.ensures in
    let here : c.loop-place.place < length (constraints_of schema c.args.table) = omega (arith, c.loop-place-test.true, count) in
    let found = found_at (constraints_of schema c.args.table) c.loop-place.place here in
    each-conflict (columns_of schema c.args.table) (rows_of tables c.args.table) c.args.origin.now (constraints_of schema c.args.table) c.loop-place.numbers c.loop-place.place found.0 c.loop-place.row
    found.1 (c.loop-place.auto.numbers ∙ c.requires.numbers) (Conflict c.in-Conflict.name) c.settle_one.new.number (c.in-Conflict.ensures found.0 found.1)
    whole c.loop-place.invariant.rest c.in-Conflict.name refl

-- or which leaves a row to the constraints behind it
pub loop-place-preserved : goal.loop-place-preserved
loop-place-preserved g c =
    let schema = g.R.RowStore.schema c.args.store.now in
    let tables = g.R.RowStore.tables c.args.store.now in
    let whole : TableOutcome = settled_each (columns_of schema c.args.table) (rows_of tables c.args.table) c.args.origin.now (constraints_of schema c.args.table) c.args.numbers.now c.args.row in
    let count = rw c.schema.ensures.value at c.constraint_count-place-end.ensures in
    let here : c.loop-place.place < length (constraints_of schema c.args.table) = omega (arith, c.loop-place-test.true, count) in
    let found = found_at (constraints_of schema c.args.table) c.loop-place.place here in
    let ruling = c.in-Fits.ensures found.0 found.1 in
    let fit = ap (λ (outcome : ConstraintOutcome). outcome.settled) ruling in
    record {
      fits = RowFits-settled_one (columns_of schema c.args.table) found.0 (rows_of tables c.args.table) c.args.origin.now c.loop-place.row c.loop-place.invariant.fits (get_or c.loop-place.numbers c.loop-place.place 0) c.in-Fits.next fit;
      before = HasBefore-like schema tables c.args.table (option_copied c.args.before) c.loop-place.row c.in-Fits.next
          (key_of-settled_one (columns_of schema c.args.table) found.0 (rows_of tables c.args.table) c.args.origin.now c.loop-place.row c.loop-place.invariant.fits (get_or c.loop-place.numbers c.loop-place.place 0) c.in-Fits.next fit)
          c.loop-place.invariant.before;
      rest = each-fits (columns_of schema c.args.table) (rows_of tables c.args.table) c.args.origin.now (constraints_of schema c.args.table) c.loop-place.numbers c.loop-place.place found.0 c.loop-place.row
          found.1 (c.loop-place.auto.numbers ∙ c.requires.numbers) (Fits c.in-Fits.next) c.settle_one.new.number ruling
          whole c.loop-place.invariant.rest c.in-Fits.next refl;
    }
