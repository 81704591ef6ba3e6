-- Making room in index after index.
use Rattle.std.proofs.Common.{◌≤◌, take}
use Rattle.std.specs.List.{AllByRecursion}
use Rattle.page_tables.specs.Index.{UniqueSlots, AreRoomier}
use Rattle.page_tables.proofs.indexed_rows.reserve_each.Given as goal

-- no room is given up, and the indexes so far have enough
abbrev pub invariant-loop-place : goal.invariant-loop-place
invariant-loop-place l = record {
  roomier : AreRoomier l.fn.indexes.items l.indexes.items;
  done : AllByRecursion (λ (index : UniqueSlots). l.most ≤ index.most) (take l.place l.indexes.items);
}
