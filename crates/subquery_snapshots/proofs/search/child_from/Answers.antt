use Rattle.std.proofs.Common.{◌≡◌, ◌≤◌, Some, length, sym, ◌∙◌, arith}
use Rattle.std.specs.Prelude.{slice_get}
use Rattle.std.proofs.lemmas.List.{drop_all}
use Rattle.rep_lists.proofs.Places.{drop_from_found}
use Rattle.rep_schema.specs.Tables.{rows_of}
use Rattle.subquery_snapshots.proofs.search.child_from.Goals as goal

pub loop-place-preserved : goal.loop-place-preserved
loop-place-preserved g c =
    let rows = rows_of (g.S.PlacedRows.tables c.args.store.now) c.args.table in
    let there : slice_get rows c.loop-place.place ≡ Some c.in-Some.row.now = sym c.in-Some.ensures in
    let here = drop_from_found rows c.loop-place.place c.in-Some.row.now there in
    rw (here, sym c.is_child.ensures ∙ c.if-is_child.false) at c.loop-place.invariant

pub returns-then-is_child : goal.returns-then-is_child
returns-then-is_child g c =
    let rows = rows_of (g.S.PlacedRows.tables c.args.store.now) c.args.table in
    let there : slice_get rows c.loop-place.place ≡ Some c.in-Some.row.now = sym c.in-Some.ensures in
    let here = drop_from_found rows c.loop-place.place c.in-Some.row.now there in
    rw (here, sym c.is_child.ensures ∙ c.if-is_child.true) at c.loop-place.invariant

-- none is left
pub returns : goal.returns
returns g c =
    let rows = rows_of (g.S.PlacedRows.tables c.args.store.now) c.args.table in
    let past : length rows ≤ c.loop-place.place = omega (arith, c.loop-place-test.false, c.count-place-end.ensures) in
    rw (drop_all c.loop-place.place rows past) at c.loop-place.invariant
