-- The first fates stand behind the others, and there is room for the rest.
use Rattle.std.proofs.Common.{◌≡◌, ◌≤◌, ◌+◌, ◌++◌, length, take}
use Rattle.std.specs.VecDeque.{deque_len, deque_capacity}
use Rattle.net_plan.proofs.direction.push_each.Given as goal

abbrev pub invariant-loop-place : goal.invariant-loop-place
invariant-loop-place l = record {
  items : l.kept.items ≡ l.initial.kept.items ++ take l.place l.fates;
  room : deque_len l.kept + length l.fates ≤ deque_capacity l.kept + l.place;
}
