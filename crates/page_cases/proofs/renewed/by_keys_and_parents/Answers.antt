use Rattle.std.proofs.Common.{◌≡◌, ◌∙◌}
use Rattle.rep_schema.specs.Tables.{rows_of}
use Rattle.page_cases.proofs.AllRows.{any_rows}
use Rattle.page_cases.proofs.renewed.by_keys_and_parents.Goals as goal

-- the rows that all of the older ones are
pub rows_fast-requires-clause-up_to_date : goal.rows_fast-requires-clause-up_to_date
rows_fast-requires-clause-up_to_date g c =
    let older = rows_of c.args.older.now.tables c.args.table in
    let all : c.as_slice-2.result.now ≡ older = c.as_slice-2.ensures ∙ c.in_ok-rows.ensures.rows ∙ any_rows c.any_row-any.result older c.any_row-any.ensures in
    let others = rw (c.as_slice.ensures, c.in_ok-all.ensures) at c.in_ok-shows_but.ensures c.if-not-branch.false in
    rw (c.schema.ensures.value, c.of-view.ensures.store, c.as_slice-3.ensures, all) others
