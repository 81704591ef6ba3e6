-- Putting row after row.
use Rattle.std.proofs.Common.{◌≡◌, ◌+◌, ◌≤◌, length, take}
use Rattle.std.specs.Prelude.{slice_index, slice_set}
use Rattle.rep_schema.specs.Tables.{rows_of}
use Rattle.master_join.proofs.rows.copy_rows.Given as goal

-- the rows up to the place are there, with room for the others
abbrev pub invariant-loop-place : goal.invariant-loop-place
invariant-loop-place g l =
    let rows = rows_of (g.R.RowStore.tables l.source) l.table in
    record {
      schema : g.S.RowStore.schema l.store ≡ g.S.RowStore.schema l.fn.store;
      number : length (g.S.RowStore.tables l.fn.store) ≡ length (g.S.RowStore.schema l.fn.store).tables;
      tables : g.S.RowStore.tables l.store ≡ slice_set (g.S.RowStore.tables l.fn.store) l.table (take l.place rows);
      room : length rows ≤ slice_index (g.S.RowStore.spare l.store) l.table + l.place;
    }
