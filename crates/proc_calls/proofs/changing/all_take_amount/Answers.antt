use Rattle.std.proofs.Common.{sym, ◌∙◌}
use Rattle.std.specs.Int.{w64}
use Rattle.std.proofs.Math.Facts.{to_z-of_z}
use Rattle.rep_lists.proofs.Places.{found_at}
use Rattle.rep_schema.specs.Tables.{rows_of}
use Rattle.proc_state.specs.Actions.{can_rise_where}
use Rattle.proc_calls.proofs.Raising.{all_more, all_stops, all_end}
use Rattle.proc_calls.proofs.changing.all_take_amount.Goals as goal

pub unreachable-requires : goal.unreachable-requires
unreachable-requires g c =
    let rows = rows_of (g.R.RowStore.tables c.args.store.now) c.args.table in
    let below = rw c.count-place-end.ensures at c.loop-place-test.true in
    let here = found_at rows c.loop-place.place below in
    absurd (cc (here.1, c.in_default.ensures))

pub returns-then-not-takes_amount : goal.returns-then-not-takes_amount
returns-then-not-takes_amount g c =
    let amount_is = to_z-of_z {w = w64} c.ranges.amount in
    let rows = rows_of (g.R.RowStore.tables c.args.store.now) c.args.table in
    let fails = rw amount_is at (sym c.takes_amount.ensures ∙ c.if-not-takes_amount.true) in
    sym (all_stops (can_rise_where c.args.tests.now c.args.column c.args.amount) rows c.loop-place.place (rw amount_is at c.loop-place.invariant.so_far) c.in-Some.row.now (sym c.in-Some.ensures) fails)

pub loop-place-preserved : goal.loop-place-preserved
loop-place-preserved g c =
    let amount_is = to_z-of_z {w = w64} c.ranges.amount in
    let rows = rows_of (g.R.RowStore.tables c.args.store.now) c.args.table in
    let passes = rw amount_is at (sym c.takes_amount.ensures ∙ c.if-not-takes_amount.false) in
    rw amount_is (record {
      so_far = all_more (can_rise_where c.args.tests.now c.args.column c.args.amount) rows c.loop-place.place (rw amount_is at c.loop-place.invariant.so_far) c.in-Some.row.now (sym c.in-Some.ensures) passes;
    })

pub returns : goal.returns
returns g c =
    let amount_is = to_z-of_z {w = w64} c.ranges.amount in
    let rows = rows_of (g.R.RowStore.tables c.args.store.now) c.args.table in
    sym (all_end (can_rise_where c.args.tests.now c.args.column c.args.amount) rows c.loop-place.place (rw amount_is at c.loop-place.invariant.so_far) (rw c.count-place-end.ensures at c.loop-place-test.false))
