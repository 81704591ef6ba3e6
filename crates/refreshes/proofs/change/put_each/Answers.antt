use Rattle.std.proofs.Common.{◌+◌, ◌<◌, [], ◌∷◌, length, drop, ap, ◌∙◌, arith}
use Rattle.std.proofs.lemmas.List.{append_assoc, length_push}
use Rattle.std.proofs.lemmas.Iterator.Adapters.{YieldsList-from_vec}
use Rattle.std.proofs.lemmas.Iterator.Consumers.{YieldsList-turn}
use Rattle.rep_lists.proofs.Places.{drop_from_place}
use Rattle.rep_schema.specs.Tables.{columns_of, put_row, rows_of}
use Rattle.refreshes.specs.Planned.{puttings}
use Rattle.refreshes.proofs.StepTables.{tables_step}
use Rattle.refreshes.proofs.ChangesMade.{put}
use Rattle.refreshes.proofs.change.put_each.Goals as goal

pub loop-new-preserved : goal.loop-new-preserved
loop-new-preserved g c =
    let inv = c.loop-new.invariant in
    let table = c.args.table in
    let columns = columns_of (g.R.RowStore.schema c.args.store.now) table in
    let first = g.R.RowStore.tables c.args.store.now in
    let tables = g.R.RowStore.tables c.loop-new.store in
    let now = rows_of tables table in
    let gives = c.into_iter-new-iterator.ensures.into_iter_gives in
    let turn = YieldsList-turn (YieldsList-from_vec {s = c.into_iter-new-iterator.result} c.args.come.items gives.0 (gives.1 ∙ c.args.come.ok.0)) c.loop-new.yielded c.loop-new.new-iterator c.loop-new.yielded_by c.next.result c.next.new.self c.in-Some.new c.in-Some.is c.next.ensures.steps in
    let here = drop_from_place c.args.come.items (length c.loop-new.yielded) c.in-Some.new turn.0 turn.1 in
    let number = length_push c.loop-new.yielded c.in-Some.new in
    let below : table < length first = omega (arith, inv.number, c.requires.table) in
    let step = tables_step first tables (g.R.RowStore.tables c.put_one.new.store) table now (put_row columns c.in-Some.new now) below inv.tables (rw inv.schema at c.put_one.ensures.tables) in
    let changes = rw inv.schema at c.put_one.ensures.changes in
    let can = rw here at inv.can in
    record {
      schema = c.put_one.ensures.schema ∙ inv.schema;
      number = inv.number;
      tables = step.1;
      can = rw (number, step.0) can.2;
      rows = rw (number, step.0) (rw here at inv.rows);
      changes = rw (number, step.0, changes) (append_assoc c.loop-new.done.items (put table columns c.in-Some.new now ∷ []) (puttings table columns (drop (length c.loop-new.yielded + 1) c.args.come.items) (put_row columns c.in-Some.new now)) ∙ (rw here at inv.changes));
      capacity = c.put_one.ensures.capacity ∙ inv.capacity;
      place = rw number (omega (arith, c.put_one.ensures.number, inv.place, ap length here));
      room = rw number (omega (arith, c.put_one.ensures.room, inv.room, ap length here));
      others = λ t other. c.put_one.ensures.others t other ∙ inv.others t other;
    }
