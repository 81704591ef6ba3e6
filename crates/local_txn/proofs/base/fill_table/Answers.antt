-- Row after row, and then all of them.
use Rattle.std.proofs.Common.{◌≡◌, ◌<◌, [], ◌++◌, length, get_or, set, map, take, drop, refl, ap, ◌∙◌, arith}
use Rattle.std.proofs.lemmas.List.{get_or-set_same, set-set}
use Rattle.std.proofs.lemmas.Option.{slice_get-get_or}
use Rattle.rep_lists.proofs.InPlace.{changed_more}
use Rattle.rep_schema.specs.Tables.{Cells, Rows, columns_of, rows_of}
use Rattle.txn_effects.specs.Filled.{filled_row}
use Rattle.local_txn.specs.BaseSteps.{fill_count}
use Rattle.local_txn.proofs.BaseFilling.{base_filling}
use Rattle.local_txn.proofs.BaseTables.{length-changed_to, filled_rows-all, fill_count-within}
use Rattle.local_txn.proofs.base.fill_table.Goals as goal

pub loop-place-preserved : goal.loop-place-preserved
loop-place-preserved g c =
    let schema = g.R.RowStore.schema c.args.store.now in
    let tables = g.R.RowStore.tables c.args.store.now in
    let table = c.args.table in
    let i = c.loop-place.place in
    let rows = rows_of tables table in
    let fill : Cells → Cells = filled_row (base_filling c.args.site.now) (columns_of schema table) in
    let now : Rows = map fill (take i rows) ++ drop i rows in
    let within : table < length tables = omega (arith, c.requires.table, c.holds_tables.ensures.number) in
    let below : i < length rows = omega (arith, c.loop-place-test.true, c.fill_count-place-end.ensures, fill_count-within (columns_of schema table) rows) in
    let below_now : i < length now = omega (arith, below, length-changed_to fill rows i) in
    let are : rows_of (g.R.RowStore.tables c.loop-place.store) table ≡ now = rw c.loop-place.invariant.filled (get_or-set_same tables table now [] within) in
    let row = get_or now i [] in
    let made = c.fill_row.ensures.tables row (rw are (slice_get-get_or now i [] below_now)) in
    let next : g.R.RowStore.tables c.fill_row.new.store ≡ set (set tables table now) table (set now i (fill row)) = rw (c.loop-place.invariant.same, are, c.loop-place.invariant.filled) at made in
    record {
      same = c.fill_row.ensures.schema ∙ c.loop-place.invariant.same;
      filled = next ∙ set-set tables table now (set now i (fill row)) ∙ ap (set tables table) (changed_more fill rows now i [] (fill row) below refl refl);
      room = omega (arith, c.fill_row.ensures.room, c.loop-place.invariant.room);
      others = λ t other. c.fill_row.ensures.others t other ∙ c.loop-place.invariant.others t other;
    }

pub returns-clause-tables : goal.returns-clause-tables
returns-clause-tables g c =
    let schema = g.R.RowStore.schema c.args.store.now in
    let tables = g.R.RowStore.tables c.args.store.now in
    let table = c.args.table in
    let rows = rows_of tables table in
    let all : c.loop-place.place ≡ fill_count (columns_of schema table) rows = omega (arith, c.loop-place-test.false, c.loop-place.auto.place-end, c.fill_count-place-end.ensures) in
    c.loop-place.invariant.filled
    ∙ ap (set tables table) (filled_rows-all (base_filling c.args.site.now) (columns_of schema table) rows c.loop-place.place (c.holds_tables.ensures.each table c.requires.table).fit all)
