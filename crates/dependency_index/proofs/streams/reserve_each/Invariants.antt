-- The streams up to the place have the memory, and what is kept of them is as it was.
use Rattle.std.proofs.Common.{◌≡◌, ◌≤◌, ℕ, take}
use Rattle.std.specs.List.{AllByRecursion}
use Rattle.dependency_index.specs.Columns.{Lodged, columns_of}
use Rattle.dependency_index.proofs.streams.reserve_each.Given as goal

abbrev pub invariant-loop-stream : goal.invariant-loop-stream
invariant-loop-stream l = record {
  made : AllByRecursion (λ (s : Lodged). l.places ≤ s.capacity) (take l.stream-index l.streams);
  columns : columns_of l.streams ≡ columns_of l.initial.streams;
  capacity : (least : ℕ) → AllByRecursion (λ (s : Lodged). least ≤ s.capacity) l.initial.streams → AllByRecursion (λ (s : Lodged). least ≤ s.capacity) l.streams;
}
