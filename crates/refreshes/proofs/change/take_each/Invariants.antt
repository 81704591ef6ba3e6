-- Taking rows key by key.
use Rattle.std.proofs.Common.{◌≡◌, ◌≢◌, ℕ, ◌+◌, ◌≤◌, ◌++◌, drop, length}
use Rattle.std.specs.Prelude.{slice_index, slice_set, vec_len, vec_capacity}
use Rattle.rep_schema.specs.Tables.{columns_of, rows_of}
use Rattle.refreshes.specs.Planned.{rows_left, takings}
use Rattle.refreshes.proofs.change.take_each.Given as goal

-- taking the rows of the keys that are left gives what taking all of them gives, with the changes so far
abbrev pub invariant-loop-key : goal.invariant-loop-key
invariant-loop-key g l =
    let columns = columns_of (g.R.RowStore.schema l.fn.store) l.table in
    let first = rows_of (g.R.RowStore.tables l.fn.store) l.table in
    let now = rows_of (g.R.RowStore.tables l.store) l.table in
    let left = drop l.key-index l.gone in
    record {
      schema : g.R.RowStore.schema l.store ≡ g.R.RowStore.schema l.fn.store;
      number : length (g.R.RowStore.tables l.fn.store) ≡ length (g.R.RowStore.schema l.fn.store).tables;
      tables : g.R.RowStore.tables l.store ≡ slice_set (g.R.RowStore.tables l.fn.store) l.table now;
      rows : rows_left columns left now ≡ rows_left columns l.gone first;
      changes : l.done.items ++ takings l.table columns left now ≡ l.fn.done.items ++ takings l.table columns l.gone first;
      capacity : vec_capacity l.done ≡ vec_capacity l.fn.done;
      place : vec_len l.done + length left ≤ vec_len l.fn.done + length l.gone;
      room : slice_index (g.R.RowStore.spare l.fn.store) l.table ≤ slice_index (g.R.RowStore.spare l.store) l.table;
      others : (t : ℕ) → t ≢ l.table → slice_index (g.R.RowStore.spare l.store) t ≡ slice_index (g.R.RowStore.spare l.fn.store) t;
    }
