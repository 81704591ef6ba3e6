-- The keys so far, and what is left of the two lists, come to all.
use Rattle.std.proofs.Common.{◌≡◌, ◌+◌, ◌-◌, ◌≤◌, ◌++◌, drop, length}
use Rattle.change_logs.specs.Noting.{with_keys}
use Rattle.change_logs.proofs.merge.with_keys.Given as goal

abbrev pub invariant-loop-next : goal.invariant-loop-next
invariant-loop-next l = record {
  next : l.next ≤ length l.more;
  place : l.place ≤ length l.keys;
  all : l.all ++ with_keys (drop l.next l.more) (drop l.place l.keys) ≡ with_keys l.more l.keys;
}

abbrev pub decreases-loop-next : goal.decreases-loop-next
decreases-loop-next l = (length l.more - l.next) + (length l.keys - l.place)
