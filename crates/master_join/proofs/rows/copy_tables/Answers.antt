use Rattle.std.proofs.Common.{◌≡◌, ◌<◌, ◌≤◌, List, [], length, sym, ap, ◌∙◌, arith}
use Rattle.std.proofs.lemmas.List.{get_or-replicate, length-replicate}
use Rattle.rep_schema.specs.declared.schema.Schema.{Schema}
use Rattle.rep_schema.specs.Tables.{Rows, rows_of}
use Rattle.master_join.proofs.CopiedTables.{not_yet, replaced_next, all_replaced}
use Rattle.master_join.proofs.rows.copy_tables.Goals as goal

pub returns-clause-tables : goal.returns-clause-tables
returns-clause-tables g c =
    let tables = g.R.RowStore.tables c.args.source.now in
    let first = g.S.RowStore.tables c.args.store.now in
    let number = c.holds_tables.ensures.number in
    let as_many : length tables ≡ length first = number ∙ sym (ap length c.requires.empty ∙ length-replicate _ _) in
    let past : length tables ≤ c.loop-table.table = omega (arith, c.loop-table-test.false, c.len-table-end.ensures, number, ap (λ (s : Schema). length s.tables) c.schema.ensures.value) in
    c.loop-table.invariant.tables ∙ all_replaced tables first c.loop-table.table as_many past

pub loop-table-preserved : goal.loop-table-preserved
loop-table-preserved g c =
    let tables = g.R.RowStore.tables c.args.source.now in
    let first = g.S.RowStore.tables c.args.store.now in
    let number = c.holds_tables.ensures.number in
    let as_many : length tables ≡ length first = number ∙ sym (ap length c.requires.empty ∙ length-replicate _ _) in
    let below : c.loop-table.table < length tables = omega (arith, c.loop-table-test.true, c.len-table-end.ensures, number, ap (λ (s : Schema). length s.tables) c.schema.ensures.value) in
    record {
      schema = c.copy_rows.ensures.schema ∙ c.loop-table.invariant.schema;
      tables = replaced_next tables first (g.S.RowStore.tables c.loop-table.store) (g.S.RowStore.tables c.copy_rows.new.store) c.loop-table.table [] as_many below c.loop-table.invariant.tables c.in_ok-copy_rows.ensures.tables;
    }

pub copy_rows-requires-clause-empty : goal.copy_rows-requires-clause-empty
copy_rows-requires-clause-empty g c κs within =
    let tables = g.R.RowStore.tables c.args.source.now in
    let first = g.S.RowStore.tables c.args.store.now in
    let table = c.loop-table.table in
    let number = c.holds_tables.ensures.number in
    let as_many : length tables ≡ length first = number ∙ sym (ap length c.requires.empty ∙ length-replicate _ _) in
    let below : table < length (g.R.RowStore.schema c.args.source.now).tables = omega (arith, c.loop-table-test.true, c.len-table-end.ensures, ap (λ (s : Schema). length s.tables) c.schema.ensures.value) in
    ap (λ (ts : List Rows). rows_of ts table) c.loop-table.invariant.tables ∙ not_yet tables first table [] as_many (omega (arith, below, number))
    ∙ ap (λ (ts : List Rows). rows_of ts table) c.requires.empty ∙ get_or-replicate (length (g.R.RowStore.schema c.args.source.now).tables) table [] [] below
