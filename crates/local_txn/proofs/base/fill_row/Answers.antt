-- One row, taken out, filled in and put back.
use Rattle.std.proofs.Common.{◌≡◌, ◌<◌, [], length, set, Some, None, sym, ◌∙◌, arith}
use Rattle.std.specs.Prelude.{slice_get}
use Rattle.std.proofs.lemmas.List.{get_or-set_same, set-set}
use Rattle.rep_schema.specs.Tables.{columns_of, key_of, take_row, put_row, rows_of}
use Rattle.rep_schema.proofs.Shapes.{length-columns_of}
use Rattle.txn_effects.specs.Filled.{filled_row}
use Rattle.local_txn.proofs.BaseFilling.{base_filling, find_row-there, length-there, RowFits-filled_there, IsUniqueRow-filled, put_row-filled}
use Rattle.local_txn.proofs.base.fill_row.Goals as goal

pub key_in-key-requires-clause-long : goal.key_in-key-requires-clause-long
key_in-key-requires-clause-long g c κs within =
    let schema = g.R.RowStore.schema c.args.store.now in
    let tables = g.R.RowStore.tables c.args.store.now in
    let table = c.args.table in
    let rows = rows_of tables table in
    let is = c.holds_tables.ensures.each table c.requires.table in
    let row = c.in-Some.found.now in
    let there : slice_get rows c.args.place ≡ Some row = sym c.in-Some.ensures in
    length-there schema table rows is c.args.place row there

-- the row is found under its key
pub unreachable-requires-in_default-take : goal.unreachable-requires-in_default-take
unreachable-requires-in_default-take g c =
    let schema = g.R.RowStore.schema c.args.store.now in
    let tables = g.R.RowStore.tables c.args.store.now in
    let table = c.args.table in
    let rows = rows_of tables table in
    let is = c.holds_tables.ensures.each table c.requires.table in
    let row = c.in-Some.found.now in
    let there : slice_get rows c.args.place ≡ Some row = sym c.in-Some.ensures in
    let taken = rw c.key_in-key.ensures at c.take.ensures.taken in
    let e : Some row ≡ None = sym (find_row-there schema table rows is c.args.place row there) ∙ sym taken ∙ c.in_default-take.is in
    cc

pub fill_everywhere-requires-clause-few : goal.fill_everywhere-requires-clause-few
fill_everywhere-requires-clause-few g c =
    rw (c.columns_of.ensures, c.schema.ensures.value, c.take.ensures.schema) (length-columns_of (g.R.RowStore.schema c.args.store.now) c.requires.shape c.args.table)

pub fill_everywhere-requires-clause-long : goal.fill_everywhere-requires-clause-long
fill_everywhere-requires-clause-long g c =
    let schema = g.R.RowStore.schema c.args.store.now in
    let tables = g.R.RowStore.tables c.args.store.now in
    let table = c.args.table in
    let rows = rows_of tables table in
    let is = c.holds_tables.ensures.each table c.requires.table in
    let row = c.in-Some.found.now in
    let there : slice_get rows c.args.place ≡ Some row = sym c.in-Some.ensures in
    let taken = rw c.key_in-key.ensures at c.take.ensures.taken in
    let same : c.in-Some-take.row ≡ row = (let e : Some c.in-Some-take.row ≡ Some row = sym c.in-Some-take.is ∙ taken ∙ find_row-there schema table rows is c.args.place row there in cc) in
    rw (c.columns_of.ensures, c.schema.ensures.value, c.take.ensures.schema, same) (length-there schema table rows is c.args.place row there)

pub put-requires-clause-fits : goal.put-requires-clause-fits
put-requires-clause-fits g c =
    let schema = g.R.RowStore.schema c.args.store.now in
    let tables = g.R.RowStore.tables c.args.store.now in
    let table = c.args.table in
    let rows = rows_of tables table in
    let is = c.holds_tables.ensures.each table c.requires.table in
    let row = c.in-Some.found.now in
    let there : slice_get rows c.args.place ≡ Some row = sym c.in-Some.ensures in
    let taken = rw c.key_in-key.ensures at c.take.ensures.taken in
    let same : c.in-Some-take.row ≡ row = (let e : Some c.in-Some-take.row ≡ Some row = sym c.in-Some-take.is ∙ taken ∙ find_row-there schema table rows is c.args.place row there in cc) in
    let filled : c.fill_everywhere.new.row ≡ filled_row (base_filling c.args.site.now) (columns_of schema table) row =
    rw same at (rw (c.columns_of.ensures, c.schema.ensures.value, c.take.ensures.schema) at c.fill_everywhere.ensures) in
    rw (c.take.ensures.schema, filled) (RowFits-filled_there schema table rows is c.args.place row there c.requires.free c.args.site.now)

-- the others are left
pub put-requires-clause-unique : goal.put-requires-clause-unique
put-requires-clause-unique g c =
    let schema = g.R.RowStore.schema c.args.store.now in
    let tables = g.R.RowStore.tables c.args.store.now in
    let table = c.args.table in
    let rows = rows_of tables table in
    let is = c.holds_tables.ensures.each table c.requires.table in
    let row = c.in-Some.found.now in
    let there : slice_get rows c.args.place ≡ Some row = sym c.in-Some.ensures in
    let taken = rw c.key_in-key.ensures at c.take.ensures.taken in
    let same : c.in-Some-take.row ≡ row = (let e : Some c.in-Some-take.row ≡ Some row = sym c.in-Some-take.is ∙ taken ∙ find_row-there schema table rows is c.args.place row there in cc) in
    let filled : c.fill_everywhere.new.row ≡ filled_row (base_filling c.args.site.now) (columns_of schema table) row =
    rw same at (rw (c.columns_of.ensures, c.schema.ensures.value, c.take.ensures.schema) at c.fill_everywhere.ensures) in
    let gone = take_row (columns_of schema table) (key_of (columns_of schema table) row) rows in
    let within : table < length tables = omega (arith, c.requires.table, c.holds_tables.ensures.number) in
    let emptied : g.R.RowStore.tables c.take.new.self ≡ set tables table gone = rw c.key_in-key.ensures at c.take.ensures.tables in
    let left : rows_of (g.R.RowStore.tables c.take.new.self) table ≡ gone = rw emptied (get_or-set_same tables table gone [] within) in
    rw (c.take.ensures.schema, filled, left) (IsUniqueRow-filled schema table rows is c.args.place row there c.requires.free c.args.site.now)

-- it is put back at its place
pub returns-clause-tables : goal.returns-clause-tables
returns-clause-tables g c one at =
    let schema = g.R.RowStore.schema c.args.store.now in
    let tables = g.R.RowStore.tables c.args.store.now in
    let table = c.args.table in
    let rows = rows_of tables table in
    let is = c.holds_tables.ensures.each table c.requires.table in
    let row = c.in-Some.found.now in
    let there : slice_get rows c.args.place ≡ Some row = sym c.in-Some.ensures in
    let taken = rw c.key_in-key.ensures at c.take.ensures.taken in
    let same : c.in-Some-take.row ≡ row = (let e : Some c.in-Some-take.row ≡ Some row = sym c.in-Some-take.is ∙ taken ∙ find_row-there schema table rows is c.args.place row there in cc) in
    let filled : c.fill_everywhere.new.row ≡ filled_row (base_filling c.args.site.now) (columns_of schema table) row =
    rw same at (rw (c.columns_of.ensures, c.schema.ensures.value, c.take.ensures.schema) at c.fill_everywhere.ensures) in
    let gone = take_row (columns_of schema table) (key_of (columns_of schema table) row) rows in
    let within : table < length tables = omega (arith, c.requires.table, c.holds_tables.ensures.number) in
    let emptied : g.R.RowStore.tables c.take.new.self ≡ set tables table gone = rw c.key_in-key.ensures at c.take.ensures.tables in
    let left : rows_of (g.R.RowStore.tables c.take.new.self) table ≡ gone = rw emptied (get_or-set_same tables table gone [] within) in
    let own : one ≡ row = (let e : Some one ≡ Some row = sym at ∙ there in cc) in
    let now = filled_row (base_filling c.args.site.now) (columns_of schema table) row in
    let back : g.R.RowStore.tables c.put.new.self ≡ set (set tables table gone) table (put_row (columns_of schema table) now gone) = rw (c.take.ensures.schema, filled, left, emptied) at c.put.ensures.tables in
    rw own (back ∙ rw (put_row-filled schema table rows is c.args.place row there c.requires.free c.args.site.now) (set-set tables table gone (set rows c.args.place now)))
