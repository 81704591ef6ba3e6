-- Making room in table after table.
use Rattle.std.proofs.Common.{◌≡◌, ℕ, ◌<◌, ◌≤◌}
use Rattle.std.specs.Prelude.{slice_index}
use Rattle.rep_schema.specs.Tables.{columns_of, rows_of}
use Rattle.local_txn.specs.BaseSteps.{fill_count}
use Rattle.local_txn.proofs.base.reserve_to_fill.Given as goal

-- there is room in the tables so far
abbrev pub invariant-loop-table : goal.invariant-loop-table
invariant-loop-table g l =
    let schema = g.R.RowStore.schema l.fn.store in
    let tables = g.R.RowStore.tables l.fn.store in
    record {
      same : g.R.RowStore.schema l.store ≡ schema;
      unchanged : g.R.RowStore.tables l.store ≡ tables;
      room : (t : ℕ) → t < l.table → fill_count (columns_of schema t) (rows_of tables t) ≤ slice_index (g.R.RowStore.spare l.store) t;
    }
