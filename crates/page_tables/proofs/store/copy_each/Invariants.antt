-- Copying tables one by one.
use Rattle.std.proofs.Common.{◌≡◌, take}
use Rattle.page_tables.specs.Stored.{rows_in, uniques_in}
use Rattle.page_tables.proofs.store.copy_each.Given as goal

-- the tables so far are copied
abbrev pub invariant-loop-rows : goal.invariant-loop-rows
invariant-loop-rows l = record {
  rows : rows_in l.copied.items ≡ rows_in (take l.rows-index l.tables);
  uniques : uniques_in l.copied.items ≡ uniques_in (take l.rows-index l.tables);
}
