-- Filling table after table in.
use Rattle.std.proofs.Common.{◌≡◌, ℕ, ◌<◌, ◌≤◌, length}
use Rattle.std.specs.Prelude.{slice_index}
use Rattle.rep_schema.specs.Tables.{columns_of, rows_of}
use Rattle.local_txn.specs.BaseRows.{filled_tables, filled_on}
use Rattle.local_txn.specs.BaseSteps.{fill_count}
use Rattle.local_txn.proofs.BaseFilling.{base_filling}
use Rattle.local_txn.proofs.base.fill_base_rows.Given as goal

-- the tables that are left decide, and there is room in them
abbrev pub invariant-loop-table : goal.invariant-loop-table
invariant-loop-table g l =
    let schema = g.R.RowStore.schema l.fn.store in
    let now = g.R.RowStore.tables l.store in
    record {
      same : g.R.RowStore.schema l.store ≡ schema;
      number : length now ≡ length schema.tables;
      rest : filled_tables (base_filling l.site) schema.tables (g.R.RowStore.tables l.fn.store) ≡ filled_on (base_filling l.site) schema l.table now;
      room : (t : ℕ) → l.table ≤ t → t < length schema.tables → fill_count (columns_of schema t) (rows_of now t) ≤ slice_index (g.R.RowStore.spare l.store) t;
    }
