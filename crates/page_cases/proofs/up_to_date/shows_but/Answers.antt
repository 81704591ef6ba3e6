use Rattle.std.proofs.Common.{◌≡◌, filter, ◌∙◌}
use Rattle.rep_schema.specs.Tables.{columns_of, rows_of}
use Rattle.snapshot_query.specs.Parents.{has_parent}
use Rattle.page_cases.proofs.AllRows.{shows_picked}
use Rattle.page_cases.proofs.up_to_date.shows_but.Goals as goal

pub returns : goal.returns
returns g c = λ yes.
    let schema = g.R.RowStore.schema c.args.master.now in
    let tables = g.R.RowStore.tables c.args.master.now in
    let rows = rows_of tables c.args.table in
    let test = has_parent schema tables c.args.parent.now in
    let wanted : rows_of c.in_ok-wanted.wanted.tables c.args.table ≡ filter test rows = c.in_ok-wanted.ensures.rows ∙ c.as_slice.ensures ∙ c.in_ok-rows.ensures.rows in
    shows_picked (columns_of schema c.args.table) c.any_row-any.result test c.args.keys.now rows (rows_of c.args.older.now.tables c.args.table) c.any_row-any.ensures
    (c.holds_tables.ensures.each c.args.table c.requires.table).rising
    (rw (c.requires.schema, wanted) at c.shows_others.ensures.0 yes)
