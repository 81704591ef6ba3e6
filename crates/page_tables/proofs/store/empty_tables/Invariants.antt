-- Making empty tables.
use Rattle.std.proofs.Common.{◌≡◌, [], replicate, take}
use Rattle.page_tables.specs.Stored.{rows_in, AreIndexed}
use Rattle.page_tables.proofs.store.empty_tables.Given as goal

-- so many tables are there, all empty, with the indexes of their constraints
abbrev pub invariant-loop-entry : goal.invariant-loop-entry
invariant-loop-entry l = record {
  rows : rows_in l.stored.items ≡ replicate l.entry-index [];
  indexed : AreIndexed (take l.entry-index l.entries) l.stored.items;
}
