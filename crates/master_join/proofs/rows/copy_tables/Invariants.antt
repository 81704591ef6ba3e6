-- Copying table after table.
use Rattle.std.proofs.Common.{◌≡◌, ◌++◌, drop, take}
use Rattle.master_join.proofs.rows.copy_tables.Given as goal

-- the tables up to this one have their rows
abbrev pub invariant-loop-table : goal.invariant-loop-table
invariant-loop-table g l = record {
  schema : g.S.RowStore.schema l.store ≡ g.S.RowStore.schema l.fn.store;
  tables : g.S.RowStore.tables l.store ≡ take l.table (g.R.RowStore.tables l.source) ++ drop l.table (g.S.RowStore.tables l.fn.store);
}
