use Rattle.std.proofs.Common.{◌<◌, length, [], ◌++◌, ap, ◌∙◌, arith}
use Rattle.std.proofs.lemmas.List.{get_or-set_same, set-set}
use Rattle.rep_schema.specs.Tables.{columns_of, rows_of}
use Rattle.refreshes.specs.Planned.{rows_left, rows_with, puttings}
use Rattle.refreshes.proofs.change.carry_out.Goals as goal

pub put_each-requires-clause-can : goal.put_each-requires-clause-can
put_each-requires-clause-can g c κs within =
    let table = c.args.table in
    let tables = g.R.RowStore.tables c.args.store.now in
    let left = rows_left (columns_of (g.R.RowStore.schema c.args.store.now) table) c.args.plan.gone.items (rows_of tables table) in
    let in_range : table < length tables = omega (arith, c.holds_tables.ensures.number, c.requires.table) in
    let taken = rw (c.reserve.ensures.schema, c.reserve.ensures.tables, c.deref.ensures.value) at c.take_each.ensures.tables in
    let rows = ap (λ ts. rows_of ts table) taken ∙ get_or-set_same tables table left [] in_range in
    rw (rows, c.take_each.ensures.schema, c.reserve.ensures.schema) c.requires.can

pub returns-clause-tables : goal.returns-clause-tables
returns-clause-tables g c =
    let table = c.args.table in
    let tables = g.R.RowStore.tables c.args.store.now in
    let columns = columns_of (g.R.RowStore.schema c.args.store.now) table in
    let left = rows_left columns c.args.plan.gone.items (rows_of tables table) in
    let in_range : table < length tables = omega (arith, c.holds_tables.ensures.number, c.requires.table) in
    let taken = rw (c.reserve.ensures.schema, c.reserve.ensures.tables, c.deref.ensures.value) at c.take_each.ensures.tables in
    let rows = ap (λ ts. rows_of ts table) taken ∙ get_or-set_same tables table left [] in_range in
    (rw (rows, taken, c.take_each.ensures.schema, c.reserve.ensures.schema) at c.put_each.ensures.tables) ∙ set-set tables table left (rows_with columns c.args.plan.come.items left)

pub returns-clause-changes : goal.returns-clause-changes
returns-clause-changes g c =
    let table = c.args.table in
    let tables = g.R.RowStore.tables c.args.store.now in
    let columns = columns_of (g.R.RowStore.schema c.args.store.now) table in
    let left = rows_left columns c.args.plan.gone.items (rows_of tables table) in
    let in_range : table < length tables = omega (arith, c.holds_tables.ensures.number, c.requires.table) in
    let taken = rw (c.reserve.ensures.schema, c.reserve.ensures.tables, c.deref.ensures.value) at c.take_each.ensures.tables in
    let rows = ap (λ ts. rows_of ts table) taken ∙ get_or-set_same tables table left [] in_range in
    let first = rw (c.reserve.ensures.schema, c.reserve.ensures.tables, c.deref.ensures.value, c.in_ok-done.ensures.items) at c.take_each.ensures.changes in
    let more = rw (rows, c.take_each.ensures.schema, c.reserve.ensures.schema) at c.put_each.ensures.changes in
    c.from_vec.ensures ∙ more ∙ ap (λ changes. changes ++ puttings table columns c.args.plan.come.items left) first
