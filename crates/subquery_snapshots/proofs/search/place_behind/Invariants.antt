-- A search in halves.
use Rattle.std.proofs.Common.{◌≡◌, ◌-◌, ◌≤◌, [], Some, length, take, drop}
use Rattle.rep_schema.specs.Tables.{columns_of, rows_of}
use Rattle.subquery_snapshots.specs.Children.{rows_above}
use Rattle.subquery_snapshots.proofs.search.place_behind.Given as goal

-- no row before the part that is left stands above the key, and all behind it do
abbrev pub invariant-loop-low : goal.invariant-loop-low
invariant-loop-low g l =
    let columns = columns_of (g.S.PlacedRows.schema l.store) l.table in
    let rows = rows_of (g.S.PlacedRows.tables l.store) l.table in
    record {
      part : l.low ≤ l.high;
      within : l.high ≤ length rows;
      before : rows_above columns (Some l.key) (take l.low rows) ≡ [];
      behind : rows_above columns (Some l.key) (drop l.high rows) ≡ drop l.high rows;
    }

abbrev pub decreases-loop-low : goal.decreases-loop-low
decreases-loop-low g l = l.high - l.low
