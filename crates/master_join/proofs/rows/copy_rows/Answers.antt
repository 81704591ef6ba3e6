use Rattle.std.proofs.Common.{◌≡◌, ◌<◌, ◌≤◌, [], length, set, Some, sym, ap, ◌∙◌, arith}
use Rattle.std.specs.Prelude.{slice_get}
use Rattle.std.proofs.lemmas.List.{take_all, set-get_or}
use Rattle.rep_schema.specs.declared.schema.Schema.{Schema}
use Rattle.rep_schema.specs.Tables.{rows_of, IsTable}
use Rattle.master_join.proofs.CopiedRows.{unique_there, rows_now, tables_next}
use Rattle.master_join.proofs.rows.copy_rows.Goals as goal

pub loop-place-init : goal.loop-place-init
loop-place-init g c =
    let first = g.S.RowStore.tables c.args.store.now in
    record {
      schema = c.reserve.ensures.schema;
      number = c.holds_tables-2.ensures.number;
      tables = c.reserve.ensures.tables ∙ sym (set-get_or first c.args.table []) ∙ ap (set first c.args.table) c.requires.empty;
      room = omega (arith, c.in_ok-reserve.ensures.ok, c.count-count.ensures);
    }

-- the rows of a table are apart, so the next one is unique among those in front of it
pub put-requires-clause-unique : goal.put-requires-clause-unique
put-requires-clause-unique g c =
    let inv = c.loop-place.invariant in
    let table = c.args.table in
    let schema = g.R.RowStore.schema c.args.source.now in
    let rows = rows_of (g.R.RowStore.tables c.args.source.now) table in
    let first = g.S.RowStore.tables c.args.store.now in
    let are : IsTable schema table rows = c.holds_tables.ensures.each table c.requires.table in
    let there : slice_get rows c.loop-place.place ≡ Some c.in-Some.row.now = sym c.in-Some.ensures in
    let same : g.S.RowStore.schema c.loop-place.store ≡ schema = inv.schema ∙ c.requires.schema in
    let within : table < length first = omega (arith, inv.number, c.requires.table, ap (λ (s : Schema). length s.tables) c.requires.schema) in
    let now = rows_now schema table rows are c.loop-place.place c.in-Some.row.now there first (g.S.RowStore.tables c.loop-place.store) within inv.tables in
    rw (same, c.in_ok-copied.ensures, now) (unique_there schema table rows are c.loop-place.place c.in-Some.row.now there)

pub loop-place-preserved : goal.loop-place-preserved
loop-place-preserved g c =
    let inv = c.loop-place.invariant in
    let table = c.args.table in
    let schema = g.R.RowStore.schema c.args.source.now in
    let rows = rows_of (g.R.RowStore.tables c.args.source.now) table in
    let first = g.S.RowStore.tables c.args.store.now in
    let are : IsTable schema table rows = c.holds_tables.ensures.each table c.requires.table in
    let there : slice_get rows c.loop-place.place ≡ Some c.in-Some.row.now = sym c.in-Some.ensures in
    let same : g.S.RowStore.schema c.loop-place.store ≡ schema = inv.schema ∙ c.requires.schema in
    let within : table < length first = omega (arith, inv.number, c.requires.table, ap (λ (s : Schema). length s.tables) c.requires.schema) in
    record {
      schema = c.put.ensures.schema ∙ inv.schema;
      number = inv.number;
      tables = tables_next schema table rows are c.loop-place.place c.in-Some.row.now there first (g.S.RowStore.tables c.loop-place.store) (g.S.RowStore.tables c.put.new.self) within inv.tables
          (rw (same, c.in_ok-copied.ensures) at c.put.ensures.tables);
      room = omega (arith, c.put.ensures.room_added, inv.room);
    }

pub returns-clause-tables : goal.returns-clause-tables
returns-clause-tables g c =
    let table = c.args.table in
    let rows = rows_of (g.R.RowStore.tables c.args.source.now) table in
    let past : length rows ≤ c.loop-place.place = omega (arith, c.loop-place-test.false, c.count-count.ensures) in
    c.loop-place.invariant.tables ∙ ap (set (g.S.RowStore.tables c.args.store.now) table) (take_all c.loop-place.place rows past)
