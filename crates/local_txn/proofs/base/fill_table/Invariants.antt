-- Filling row after row in.
use Rattle.std.proofs.Common.{◌≡◌, ℕ, ◌+◌, ◌≤◌, ◌++◌, map, take, drop, set}
use Rattle.std.specs.Prelude.{◌≢◌, slice_index}
use Rattle.rep_schema.specs.Tables.{columns_of, rows_of}
use Rattle.txn_effects.specs.Filled.{filled_row}
use Rattle.local_txn.specs.BaseSteps.{fill_count}
use Rattle.local_txn.proofs.BaseFilling.{base_filling}
use Rattle.local_txn.proofs.base.fill_table.Given as goal

-- the rows so far are filled in, and there is room for those to come
abbrev pub invariant-loop-place : goal.invariant-loop-place
invariant-loop-place g l =
    let schema = g.R.RowStore.schema l.fn.store in
    let tables = g.R.RowStore.tables l.fn.store in
    let columns = columns_of schema l.table in
    let rows = rows_of tables l.table in
    record {
      same : g.R.RowStore.schema l.store ≡ schema;
      filled : g.R.RowStore.tables l.store ≡ set tables l.table (map (filled_row (base_filling l.site) columns) (take l.place rows) ++ drop l.place rows);
      room : fill_count columns rows ≤ slice_index (g.R.RowStore.spare l.store) l.table + l.place;
      others : (t : ℕ) → t ≢ l.table → slice_index (g.R.RowStore.spare l.store) t ≡ slice_index (g.R.RowStore.spare l.fn.store) t;
    }
