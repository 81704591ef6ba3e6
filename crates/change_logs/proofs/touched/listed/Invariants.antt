-- The keys so far, and room for those that are left.
use Rattle.std.proofs.Common.{◌≡◌, ◌+◌, ◌≤◌, take, length}
use Rattle.change_logs.proofs.touched.listed.Given as goal

abbrev pub invariant-loop-key : goal.invariant-loop-key
invariant-loop-key l = record {
  items : l.list.items ≡ take l.key-index l.keys;
  room : length l.keys ≤ l.list.spare + l.key-index;
}
