-- Making the indexes of no rows.
use Rattle.std.proofs.Common.{◌≡◌, [], map, take}
use Rattle.std.specs.List.{AllByRecursion}
use Rattle.page_tables.specs.Index.{UniqueSlots}
use Rattle.page_tables.specs.Stored.{columns_of_each}
use Rattle.page_tables.proofs.indexed_rows.indexes_of.Given as goal

abbrev pub invariant-loop-constraint : goal.invariant-loop-constraint
invariant-loop-constraint l = record {
  columns : map (λ (index : UniqueSlots). index.columns) l.indexes.items ≡ columns_of_each (take l.constraint-index l.constraints);
  items : AllByRecursion (λ (index : UniqueSlots). index.items ≡ []) l.indexes.items;
}
