use Rattle.std.proofs.Common.{◌≡◌, [], Some, sym, ◌∙◌, subst}
use Rattle.std.specs.Prelude.{IfSome}
use Rattle.rep_schema.specs.Named.{table_place}
use Rattle.rep_schema.specs.Tables.{rows_of}
use Rattle.page_tables.specs.Stored.{rows_in}
use Rattle.page_tables.proofs.Declarations.{stored_with_unique, stored_without}
use Rattle.page_tables.proofs.change.index_change.Goals as goal

pub returns-in_ok-rows-in-Some : goal.returns-in_ok-rows-in-Some
returns-in_ok-rows-in-Some c =
    let found : table_place c.args.schema.now c.args.table.now ≡ Some c.in-Some.place = rw c.as_slice-entries.ensures at (sym c.table_place.ensures ∙ c.in-Some.is) in
    let free = subst (λ found. IfSome found (λ place. rows_of (rows_in c.args.stored.now) place ≡ [])) found c.requires.free in
    let columns = rw (c.as_slice.ensures, ← c.index-entries-place.is) at c.in_ok-columns-in-Some.ensures in
    stored_with_unique c.args.schema.now c.args.stored.now c.requires.indexed c.args.table.now c.args.names.now c.in-Some.place c.index-entries-place.result c.index-stored-place.result c.in_ok-rows-in-Some.rows
    found free (rw c.as_slice-entries.ensures at c.index-entries-place.is) c.index-stored-place.is c.in_ok-rows-in-Some.ensures.rows (rw columns at c.in_ok-rows-in-Some.ensures.uniques)

pub returns-in-None : goal.returns-in-None
returns-in-None c =
    stored_without c.args.schema.now c.args.stored.now c.requires.indexed c.args.table.now c.args.names.now (rw c.as_slice-entries.ensures at (sym c.table_place.ensures ∙ c.in-None.is))
