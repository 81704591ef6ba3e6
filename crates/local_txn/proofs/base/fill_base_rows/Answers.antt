-- Table after table.
use Rattle.std.proofs.Common.{◌≡◌, ◌≢◌, ◌+◌, ◌<◌, ◌≤◌, [], length, set, map, refl, sym, ap, ◌∙◌, arith}
use Rattle.std.proofs.lemmas.List.{length-set, get_or-set_other}
use Rattle.rep_schema.specs.Tables.{columns_of, rows_of}
use Rattle.txn_effects.specs.Filled.{filled_row}
use Rattle.local_txn.specs.BaseRows.{filled_on}
use Rattle.local_txn.proofs.BaseFilling.{base_filling}
use Rattle.local_txn.proofs.BaseTables.{filled_on-more}
use Rattle.local_txn.proofs.base.fill_base_rows.Goals as goal

pub loop-table-preserved : goal.loop-table-preserved
loop-table-preserved g c =
    let schema = g.R.RowStore.schema c.args.store.now in
    let now = g.R.RowStore.tables c.loop-table.store in
    let n = c.loop-table.table in
    let filling = base_filling c.args.site.now in
    let made = map (filled_row filling (columns_of schema n)) (rows_of now n) in
    let step : g.R.RowStore.tables c.fill_table.new.store ≡ set now n made = rw c.loop-table.invariant.same at c.fill_table.ensures.tables in
    let count : c.len-table-end.result ≡ length schema.tables = c.len-table-end.ensures ∙ rw (c.schema.ensures.value, c.in_ok-reserve_to_fill.ensures.schema) refl in
    let below : n < length schema.tables = omega (arith, c.loop-table-test.true, count) in
    record {
      same = c.fill_table.ensures.schema ∙ c.loop-table.invariant.same;
      number = rw step (length-set now n made ∙ c.loop-table.invariant.number);
      rest = c.loop-table.invariant.rest ∙ filled_on-more filling schema now n c.loop-table.invariant.number below ∙ ap (filled_on filling schema (n + 1)) (sym step);
      room = λ t behind within.
          let other : t ≢ n = λ same. omega (arith, same, behind) in
          let rows : rows_of (g.R.RowStore.tables c.fill_table.new.store) t ≡ rows_of now t = rw step (get_or-set_other now n t made [] other) in
          let past : n ≤ t = omega (arith, behind) in
          rw (rows, c.fill_table.ensures.others t other) (c.loop-table.invariant.room t past within);
    }
