-- Change by change.
use Rattle.std.proofs.Common.{◌≡◌, ◌+◌, length, drop, List, ◌∙◌, arith}
use Rattle.std.proofs.lemmas.List.{length_push}
use Rattle.std.proofs.lemmas.Iterator.Adapters.{YieldsList-from_vec}
use Rattle.std.proofs.lemmas.Iterator.Consumers.{YieldsList-turn}
use Rattle.rep_lists.proofs.Places.{drop_from_place}
use Rattle.rep_schema.specs.declared.change.Change.{Change}
use Rattle.rep_schema.specs.Changes.{after_change}
use Rattle.txn_apply.proofs.Room.{changes_in-own, changes_in-first, room_for-first, room_for-drop}
use Rattle.txn_apply.proofs.making.make_changes.Goals as goal

-- the table has room for the change, and for taking back all that were made
pub make_change-requires-clause-room : goal.make_change-requires-clause-room
make_change-requires-clause-room g c κs within =
    let gives = c.into_iter-change-iterator.ensures.into_iter_gives in
    let turn = YieldsList-turn (YieldsList-from_vec {s = c.into_iter-change-iterator.result} c.into_vec-change-items.result.items gives.0 (gives.1 ∙ c.into_vec-change-items.result.ok.0)) c.loop-change.yielded c.loop-change.change-iterator c.loop-change.yielded_by c.next.result c.next.new.self c.in-Some.change c.in-Some.is c.next.ensures.steps in
    let here = rw c.into_vec-change-items.ensures at (drop_from_place c.into_vec-change-items.result.items (length c.loop-change.yielded) c.in-Some.change turn.0 turn.1) in
    let t = c.in-Some.change.table in
    let rest : List Change = drop (length c.loop-change.yielded + 1) c.args.changes.rows in
    let room = rw here at (c.loop-change.invariant.room t) in
    let fewer = rw here at (room_for-drop t (length c.loop-change.yielded) c.args.changes.rows) in
    omega (arith, room, fewer, changes_in-first t c.in-Some.change rest, changes_in-own c.in-Some.change)

pub loop-change-preserved : goal.loop-change-preserved
loop-change-preserved g c =
    let gives = c.into_iter-change-iterator.ensures.into_iter_gives in
    let turn = YieldsList-turn (YieldsList-from_vec {s = c.into_iter-change-iterator.result} c.into_vec-change-items.result.items gives.0 (gives.1 ∙ c.into_vec-change-items.result.ok.0)) c.loop-change.yielded c.loop-change.change-iterator c.loop-change.yielded_by c.next.result c.next.new.self c.in-Some.change c.in-Some.is c.next.ensures.steps in
    let here = rw c.into_vec-change-items.ensures at (drop_from_place c.into_vec-change-items.result.items (length c.loop-change.yielded) c.in-Some.change turn.0 turn.1) in
    let rest : List Change = drop (length c.loop-change.yielded + 1) c.args.changes.rows in
    let number = length_push c.loop-change.yielded c.in-Some.change in
    let next : g.R.RowStore.tables c.make_change.new.store ≡ after_change (g.R.RowStore.schema c.args.store.now) c.in-Some.change (g.R.RowStore.tables c.loop-change.store) =
    c.make_change.ensures.tables ∙ rw c.loop-change.invariant.same in
    let lead = rw here at c.loop-change.invariant.lead in
    let made_so = rw here at c.loop-change.invariant.made in
    record {
      same = c.make_change.ensures.schema ∙ c.loop-change.invariant.same;
      lead = rw (number, next) lead.1;
      made = rw (number, next) made_so;
      room = λ t.
          let room = rw here at (c.loop-change.invariant.room t) in
          rw number (omega (arith, room, changes_in-first t c.in-Some.change rest, room_for-first t c.in-Some.change rest, c.make_change.ensures.room t));
    }
