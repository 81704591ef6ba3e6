use Rattle.std.proofs.Common.{◌+◌, ◌<◌, length, drop, ap, ◌∙◌, arith}
use Rattle.std.proofs.lemmas.List.{append_assoc}
use Rattle.rep_lists.proofs.Places.{drop_from_place}
use Rattle.rep_schema.specs.Tables.{columns_of, find_row, take_row, rows_of}
use Rattle.refreshes.specs.Planned.{taking, takings}
use Rattle.refreshes.proofs.StepTables.{tables_step}
use Rattle.refreshes.proofs.change.take_each.Goals as goal

pub loop-key-preserved : goal.loop-key-preserved
loop-key-preserved g c =
    let inv = c.loop-key.invariant in
    let table = c.args.table in
    let columns = columns_of (g.R.RowStore.schema c.args.store.now) table in
    let first = g.R.RowStore.tables c.args.store.now in
    let tables = g.R.RowStore.tables c.loop-key.store in
    let now = rows_of tables table in
    let here = drop_from_place c.args.gone.now c.loop-key.key-index c.key-item.result c.loop-key-test.true c.key-item.is in
    let below : table < length first = omega (arith, inv.number, c.requires.table) in
    let step = tables_step first tables (g.R.RowStore.tables c.take_one.new.store) table now (take_row columns c.key-item.result now) below inv.tables (rw inv.schema at c.take_one.ensures.tables) in
    let changes = rw inv.schema at c.take_one.ensures.changes in
    record {
      schema = c.take_one.ensures.schema ∙ inv.schema;
      number = inv.number;
      tables = step.1;
      rows = rw step.0 (rw here at inv.rows);
      changes = rw (step.0, changes) (append_assoc c.loop-key.done.items (taking table (find_row columns c.key-item.result now)) (takings table columns (drop (c.loop-key.key-index + 1) c.args.gone.now) (take_row columns c.key-item.result now)) ∙ (rw here at inv.changes));
      capacity = c.take_one.ensures.capacity ∙ inv.capacity;
      place = omega (arith, c.take_one.ensures.number, inv.place, ap length here);
      room = omega (arith, c.take_one.ensures.room, inv.room);
      others = λ t other. c.take_one.ensures.others t other ∙ inv.others t other;
    }
