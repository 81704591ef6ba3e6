-- Making the indexes of no rows.
use Rattle.std.proofs.Common.{◌≡◌, [], map, take}
use Rattle.std.specs.List.{AllByRecursion}
use Rattle.page_tables.specs.Index.{UniqueSlots}
use Rattle.page_tables.proofs.indexed_rows.indexes_with.Given as goal

abbrev pub invariant-loop-index : goal.invariant-loop-index
invariant-loop-index l = record {
  columns : map (λ (index : UniqueSlots). index.columns) l.all.items ≡ map (λ (index : UniqueSlots). index.columns) (take l.index-index l.indexes);
  items : AllByRecursion (λ (index : UniqueSlots). index.items ≡ []) l.all.items;
}
