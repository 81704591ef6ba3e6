-- Copying indexes one by one.
use Rattle.std.proofs.Common.{◌≡◌, take}
use Rattle.page_tables.proofs.indexed_rows.copy_indexes.Given as goal

-- the indexes so far are copied
abbrev pub invariant-loop-index : goal.invariant-loop-index
invariant-loop-index l = l.copied.items ≡ take l.index-index l.indexes
