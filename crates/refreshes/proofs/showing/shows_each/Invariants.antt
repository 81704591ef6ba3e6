-- Looking row by row.
use Rattle.std.proofs.Common.{◌≡◌, ℕ, ◌<◌, Some}
use Rattle.std.specs.Prelude.{slice_get}
use Rattle.rep_schema.specs.Tables.{Cells, columns_of, key_of, rows_of}
use Rattle.snapshot_query.specs.Queries.{matches}
use Rattle.refreshes.specs.Showing.{ShowsKey}
use Rattle.refreshes.proofs.showing.shows_each.Given as goal

-- the store shows each of the rows so far
abbrev pub invariant-loop-place : goal.invariant-loop-place
invariant-loop-place g l =
    let columns = columns_of (g.R.RowStore.schema l.store) l.table in
    (p : ℕ) (row : Cells) → p < l.place → slice_get (rows_of (g.W.RowStore.tables l.walked) l.table) p ≡ Some row
    → ShowsKey columns (matches l.query) l.keys (rows_of (g.S.RowStore.tables l.master) l.table) (rows_of (g.R.RowStore.tables l.store) l.table) (key_of columns row)
