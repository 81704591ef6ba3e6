use Rattle.std.proofs.Common.{◌<◌, length, arith, refl}
use Rattle.std.specs.Int.{w64}
use Rattle.std.proofs.Math.Facts.{to_z-of_z}
use Rattle.rep_schema.specs.Tables.{rows_of}
use Rattle.proc_state.specs.Actions.{row_raised_where, can_rise_where}
use Rattle.proc_calls.proofs.AtPlace.{passes_at}
use Rattle.proc_calls.proofs.Trails.{keeps_still, keeps_then}
use Rattle.proc_calls.proofs.Raising.{place_within, unchanged_there, changed_there, changed_all, changed_none}
use Rattle.proc_calls.proofs.changing.raise_each.Goals as goal

pub loop-place-init : goal.loop-place-init
loop-place-init g c =
    record {
      tables = changed_none (row_raised_where c.args.tests.now c.args.column c.args.amount) (g.R.RowStore.tables c.args.store.now) c.args.table;
      trail = keeps_still _ _ _ refl refl (λ t. omega arith);
    }

pub raise_at-requires-clause-table : goal.raise_at-requires-clause-table
raise_at-requires-clause-table g c = λ κs lives. rw c.loop-place.invariant.trail.schema c.requires.table

pub raise_at-requires-clause-keyed : goal.raise_at-requires-clause-keyed
raise_at-requires-clause-keyed g c = λ κs lives. rw c.loop-place.invariant.trail.schema c.requires.keyed

pub raise_at-requires-clause-unconstrained : goal.raise_at-requires-clause-unconstrained
raise_at-requires-clause-unconstrained g c = λ κs lives. rw c.loop-place.invariant.trail.schema c.requires.unconstrained

pub raise_at-requires-clause-takes : goal.raise_at-requires-clause-takes
raise_at-requires-clause-takes g c = λ κs lives. rw c.loop-place.invariant.trail.schema c.requires.takes

pub raise_at-requires-clause-place : goal.raise_at-requires-clause-place
raise_at-requires-clause-place g c = λ κs lives.
    let first = g.R.RowStore.tables c.args.store.now in
    let below : c.args.table < length first = omega (arith, c.holds_tables.ensures.number, c.requires.table) in
    let within : c.loop-place.place < length (rows_of first c.args.table) = rw c.count-place-end.ensures at c.loop-place-test.true in
    place_within (row_raised_where c.args.tests.now c.args.column c.args.amount) first (g.R.RowStore.tables c.loop-place.store) c.args.table below c.loop-place.place (rw (to_z-of_z {w = w64} c.ranges.amount) at c.loop-place.invariant.tables) within

pub raise_at-requires-clause-range : goal.raise_at-requires-clause-range
raise_at-requires-clause-range g c = λ κs lives. rw (to_z-of_z {w = w64} c.ranges.amount) (λ row there.
    let first = g.R.RowStore.tables c.args.store.now in
    let below : c.args.table < length first = omega (arith, c.holds_tables.ensures.number, c.requires.table) in
    let within : c.loop-place.place < length (rows_of first c.args.table) = rw c.count-place-end.ensures at c.loop-place-test.true in
    passes_at (can_rise_where c.args.tests.now c.args.column c.args.amount) (rows_of first c.args.table) c.loop-place.place row c.requires.range
    (unchanged_there (row_raised_where c.args.tests.now c.args.column c.args.amount) first (g.R.RowStore.tables c.loop-place.store) c.args.table below c.loop-place.place (rw (to_z-of_z {w = w64} c.ranges.amount) at c.loop-place.invariant.tables) within row there))

pub returns-in_err-raise_at-clause-trail : goal.returns-in_err-raise_at-clause-trail
returns-in_err-raise_at-clause-trail g c = keeps_then _ _ _ _ _ _ c.loop-place.invariant.trail c.raise_at.ensures.trail

pub loop-place-preserved : goal.loop-place-preserved
loop-place-preserved g c =
    let first = g.R.RowStore.tables c.args.store.now in
    let below : c.args.table < length first = omega (arith, c.holds_tables.ensures.number, c.requires.table) in
    let within : c.loop-place.place < length (rows_of first c.args.table) = rw c.count-place-end.ensures at c.loop-place-test.true in
    let raised = rw (to_z-of_z {w = w64} c.ranges.amount) at c.in_ok-raise_at.ensures.tables in
    rw (to_z-of_z {w = w64} c.ranges.amount)
    (record {
      tables = changed_there (row_raised_where c.args.tests.now c.args.column c.args.amount) first (g.R.RowStore.tables c.loop-place.store) c.args.table below c.loop-place.place (rw (to_z-of_z {w = w64} c.ranges.amount) at c.loop-place.invariant.tables) within (g.R.RowStore.tables c.raise_at.new.store) raised;
      trail = keeps_then _ _ _ _ _ _ c.loop-place.invariant.trail c.raise_at.ensures.trail;
    })

pub returns-clause-tables : goal.returns-clause-tables
returns-clause-tables g c =
    let first = g.R.RowStore.tables c.args.store.now in
    let below : c.args.table < length first = omega (arith, c.holds_tables.ensures.number, c.requires.table) in
    let past = rw c.count-place-end.ensures at c.loop-place-test.false in
    changed_all (row_raised_where c.args.tests.now c.args.column c.args.amount) first (g.R.RowStore.tables c.loop-place.store) c.args.table below c.loop-place.place (rw (to_z-of_z {w = w64} c.ranges.amount) at c.loop-place.invariant.tables) past

pub returns-clause-trail : goal.returns-clause-trail
returns-clause-trail g c = c.loop-place.invariant.trail
