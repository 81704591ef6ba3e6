use Rattle.std.proofs.Common.{◌≡◌, ◌+◌, ◌<◌, ◌≤◌, [], length, drop, ap, arith}
use Rattle.std.specs.Prelude.{sum_by}
use Rattle.std.proofs.lemmas.List.{drop_all}
use Rattle.std.proofs.lemmas.List.Sums.{sum-map, sum_by-drop_more}
use Rattle.rep_schema.specs.declared.schema.Schema.{Schema}
use Rattle.rep_schema.specs.Tables.{rows_of}
use Rattle.world_commands.proofs.joins.row_count.Goals as goal

pub loop-table-init : goal.loop-table-init
loop-table-init c = omega (arith, sum-map length c.args.store.now.tables)

pub loop-table-preserved : goal.loop-table-preserved
loop-table-preserved c =
    let tables = c.args.store.now.tables in
    let table = c.loop-table.table in
    let number : length tables ≡ length c.args.store.now.schema.tables = c.schema.ensures.sound.number in
    let below : table < length tables = omega (arith, c.loop-table-test.true, c.len-table-end.ensures, number, ap (λ (s : Schema). length s.tables) c.schema.ensures.value) in
    let more : sum_by length (drop table tables) ≡ length (rows_of tables table) + sum_by length (drop (table + 1) tables) = sum_by-drop_more length tables table [] below in
    let here : c.count.result ≡ length (rows_of tables table) = c.count.ensures in
    omega (arith, c.loop-table.invariant, more, here, c.in_ok-rows.ensures)

pub returns : goal.returns
returns c =
    let tables = c.args.store.now.tables in
    let number : length tables ≡ length c.args.store.now.schema.tables = c.schema.ensures.sound.number in
    let past : length tables ≤ c.loop-table.table = omega (arith, c.loop-table-test.false, c.len-table-end.ensures, number, ap (λ (s : Schema). length s.tables) c.schema.ensures.value) in
    let counted = rw (drop_all c.loop-table.table tables past) at c.loop-table.invariant in
    omega (arith, counted)
