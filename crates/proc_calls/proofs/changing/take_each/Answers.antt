use Rattle.std.proofs.Common.{◌≡◌, ◌<◌, ◌+◌, ◌-◌, length, arith, refl}
use Rattle.proc_calls.proofs.Trails.{keeps_still, keeps_then}
use Rattle.proc_calls.proofs.Dropping.{place_within, dropped_there, dropped_none}
use Rattle.proc_calls.proofs.changing.take_each.Goals as goal

pub loop-place-init : goal.loop-place-init
loop-place-init g c =
    let tables = g.R.RowStore.tables c.args.store.now in
    record {
      within = omega (arith, c.count-place.ensures);
      tables = dropped_none c.args.tests.now tables c.args.table c.count-place.result (omega (arith, c.count-place.ensures));
      trail = keeps_still _ _ _ refl refl (λ t. omega arith);
    }

pub take_at-requires-clause-table : goal.take_at-requires-clause-table
take_at-requires-clause-table g c = λ κs lives. rw c.loop-place.invariant.trail.schema c.requires.table

pub take_at-requires-clause-keyed : goal.take_at-requires-clause-keyed
take_at-requires-clause-keyed g c = λ κs lives. rw c.loop-place.invariant.trail.schema c.requires.keyed

pub take_at-requires-clause-place : goal.take_at-requires-clause-place
take_at-requires-clause-place g c = λ κs lives.
    let first = g.R.RowStore.tables c.args.store.now in
    let below : c.args.table < length first = omega (arith, c.holds_tables.ensures.number, c.requires.table) in
    let next : c.loop-place.place ≡ c.loop-place.place - 1 + 1 = omega (arith, c.loop-place-test.true) in
    place_within c.args.tests.now first (g.R.RowStore.tables c.loop-place.store) c.args.table below c.loop-place.place (c.loop-place.place - 1) next c.loop-place.invariant.tables c.loop-place.invariant.within

pub returns-in_err-take_at-clause-trail : goal.returns-in_err-take_at-clause-trail
returns-in_err-take_at-clause-trail g c = keeps_then _ _ _ _ _ _ c.loop-place.invariant.trail c.take_at.ensures.trail

pub loop-place-preserved : goal.loop-place-preserved
loop-place-preserved g c =
    let first = g.R.RowStore.tables c.args.store.now in
    let below : c.args.table < length first = omega (arith, c.holds_tables.ensures.number, c.requires.table) in
    let next : c.loop-place.place ≡ c.loop-place.place - 1 + 1 = omega (arith, c.loop-place-test.true) in
    record {
      within = omega (arith, c.loop-place.invariant.within);
      tables = dropped_there c.args.tests.now first (g.R.RowStore.tables c.loop-place.store) c.args.table below c.loop-place.place (c.loop-place.place - 1) next c.loop-place.invariant.tables c.loop-place.invariant.within (g.R.RowStore.tables c.take_at.new.store) c.in_ok-take_at.ensures.tables;
      trail = keeps_then _ _ _ _ _ _ c.loop-place.invariant.trail c.take_at.ensures.trail;
    }

pub returns-clause-trail : goal.returns-clause-trail
returns-clause-trail g c = c.loop-place.invariant.trail
