use Rattle.std.proofs.Common.{◌+◌, ◌<◌, ◌≤◌, ◌≡◌, Bool, List, [], ◌∷◌, ◌++◌, length, drop, filter, map, sym, ap, ◌∙◌, arith}
use Rattle.std.proofs.lemmas.List.{append_assoc, append-nil, drop_all, map-append}
use Rattle.rep_lists.proofs.Places.{found_at, drop_from_found}
use Rattle.rep_schema.specs.Tables.{Cells, Rows, columns_of, key_of, rows_of}
use Rattle.rep_schema.proofs.FilteredRows.{filter-first}
use Rattle.snapshot_query.specs.Parents.{parent_key}
use Rattle.refreshes.specs.Showing.{has_key}
use Rattle.page_cases.proofs.up_to_date.with_waiting.Goals as goal

pub loop-place-preserved : goal.loop-place-preserved
loop-place-preserved g c =
    let columns = columns_of (g.R.RowStore.schema c.args.master.now) c.args.table in
    let rows = rows_of (g.R.RowStore.tables c.args.master.now) c.args.table in
    let waits : Cells → Bool = λ row. has_key (parent_key c.args.parent.now row) c.args.parents.now in
    let place = c.loop-place.place in
    let below : place < length rows = omega (arith, c.loop-place-test.true, c.count-place-end.ensures) in
    let row = found_at rows place below in
    let here = drop_from_found rows place row.0 row.1 in
    let rest = drop (place + 1) rows in
    let first : map (key_of columns) (filter waits (row.0 ∷ rest)) ≡ map (key_of columns) (filter waits (row.0 ∷ [])) ++ map (key_of columns) (filter waits rest)
    = ap (λ (some : Rows). map (key_of columns) some) (filter-first waits row.0 rest) ∙ map-append (key_of columns) (filter waits (row.0 ∷ [])) (filter waits rest) in
    rw (rw row.1 at c.in_ok-push_waiting.ensures)
    (append_assoc c.loop-place.all (map (key_of columns) (filter waits (row.0 ∷ []))) (map (key_of columns) (filter waits rest))
    ∙ ap (λ (more : List Cells). c.loop-place.all ++ more) (sym first) ∙ (rw here at c.loop-place.invariant))

-- none is left
pub returns : goal.returns
returns g c =
    let rows = rows_of (g.R.RowStore.tables c.args.master.now) c.args.table in
    let past : length rows ≤ c.loop-place.place = omega (arith, c.loop-place-test.false, c.count-place-end.ensures) in
    sym (append-nil c.loop-place.all) ∙ (rw (drop_all c.loop-place.place rows past) at c.loop-place.invariant)
