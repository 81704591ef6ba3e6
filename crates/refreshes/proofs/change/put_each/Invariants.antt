-- Putting row by row.
use Rattle.std.proofs.Common.{◌≡◌, ◌≢◌, ℕ, ◌+◌, ◌≤◌, ◌++◌, drop, length}
use Rattle.std.specs.Prelude.{slice_index, slice_set, vec_len, vec_capacity}
use Rattle.rep_schema.specs.Tables.{columns_of, rows_of}
use Rattle.refreshes.specs.Planned.{rows_with, puttings, CanCome}
use Rattle.refreshes.proofs.change.put_each.Given as goal

-- putting the rows that are left gives what putting all of them gives, with the changes so far
abbrev pub invariant-loop-new : goal.invariant-loop-new
invariant-loop-new g l =
    let columns = columns_of (g.R.RowStore.schema l.fn.store) l.table in
    let first = rows_of (g.R.RowStore.tables l.fn.store) l.table in
    let now = rows_of (g.R.RowStore.tables l.store) l.table in
    let left = drop (length l.yielded) l.fn.come.items in
    record {
      schema : g.R.RowStore.schema l.store ≡ g.R.RowStore.schema l.fn.store;
      number : length (g.R.RowStore.tables l.fn.store) ≡ length (g.R.RowStore.schema l.fn.store).tables;
      tables : g.R.RowStore.tables l.store ≡ slice_set (g.R.RowStore.tables l.fn.store) l.table now;
      can : CanCome (g.R.RowStore.schema l.fn.store) l.table left now;
      rows : rows_with columns left now ≡ rows_with columns l.fn.come.items first;
      changes : l.done.items ++ puttings l.table columns left now ≡ l.fn.done.items ++ puttings l.table columns l.fn.come.items first;
      capacity : vec_capacity l.done ≡ vec_capacity l.fn.done;
      place : vec_len l.done + length left ≤ vec_len l.fn.done + length l.fn.come.items;
      room : slice_index (g.R.RowStore.spare l.fn.store) l.table + length left ≤ slice_index (g.R.RowStore.spare l.store) l.table + length l.fn.come.items;
      others : (t : ℕ) → t ≢ l.table → slice_index (g.R.RowStore.spare l.store) t ≡ slice_index (g.R.RowStore.spare l.fn.store) t;
    }
