-- The rooms so far and those of the streams that are left make all.
use Rattle.std.proofs.Common.{◌≡◌, ◌+◌, map, drop}
use Rattle.dependency_index.specs.Columns.{columns_of, with_room, rooms}
use Rattle.dependency_index.proofs.streams.rooms_with.Given as goal

abbrev pub invariant-loop-stream : goal.invariant-loop-stream
invariant-loop-stream l = l.sum + rooms (map (with_room l.size) (columns_of (drop l.stream-index l.streams))) ≡ rooms (map (with_room l.size) (columns_of l.streams))
