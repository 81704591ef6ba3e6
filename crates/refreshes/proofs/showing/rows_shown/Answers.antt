use Rattle.std.proofs.Common.{◌+◌, ◌<◌, ◌≤◌, [], ◌∷◌, ◌++◌, length, drop, sym, ap, ◌∙◌, arith}
use Rattle.std.proofs.lemmas.List.{append_assoc, append-nil, drop_all}
use Rattle.rep_lists.proofs.Places.{found_at, drop_from_found}
use Rattle.rep_schema.specs.Tables.{rows_of}
use Rattle.rep_schema.proofs.FilteredRows.{IsTable-filter, filter-first}
use Rattle.snapshot_query.specs.Queries.{matches, query_rows}
use Rattle.refreshes.proofs.showing.rows_shown.Goals as goal

pub loop-place-preserved : goal.loop-place-preserved
loop-place-preserved g c =
    let rows = rows_of (g.R.RowStore.tables c.args.store.now) c.args.table in
    let query = c.args.query.now in
    let place = c.loop-place.place in
    let below : place < length rows = omega (arith, c.loop-place-test.true, c.count-place-end.ensures) in
    let row = found_at rows place below in
    let here = drop_from_found rows place row.0 row.1 in
    let rest = drop (place + 1) rows in
    rw (rw row.1 at c.in_ok-push_shown.ensures)
    (append_assoc c.loop-place.rows (query_rows query (row.0 ∷ [])) (query_rows query rest) ∙ ap (λ more. c.loop-place.rows ++ more) (sym (filter-first (matches query) row.0 rest)) ∙ (rw here at c.loop-place.invariant))

-- none is left
pub returns-clause-rows : goal.returns-clause-rows
returns-clause-rows g c =
    let rows = rows_of (g.R.RowStore.tables c.args.store.now) c.args.table in
    let past : length rows ≤ c.loop-place.place = omega (arith, c.loop-place-test.false, c.count-place-end.ensures) in
    sym (append-nil c.loop-place.rows) ∙ (rw (drop_all c.loop-place.place rows past) at c.loop-place.invariant)

pub returns-clause-table : goal.returns-clause-table
returns-clause-table g c =
    let rows = rows_of (g.R.RowStore.tables c.args.store.now) c.args.table in
    let past : length rows ≤ c.loop-place.place = omega (arith, c.loop-place-test.false, c.count-place-end.ensures) in
    let all = sym (append-nil c.loop-place.rows) ∙ (rw (drop_all c.loop-place.place rows past) at c.loop-place.invariant) in
    rw all (IsTable-filter (g.R.RowStore.schema c.args.store.now) c.args.table (matches c.args.query.now) rows (c.holds_tables.ensures.each c.args.table c.requires))
