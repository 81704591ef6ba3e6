-- The tree stays, no unused root goes, and there is room for all of them.
use Rattle.std.proofs.Common.{◌≡◌, ◌+◌, ◌-◌, ◌≤◌, length}
use Rattle.std.specs.Prelude.{vec_len, vec_capacity}
use Rattle.ordered_keys.specs.Trees.{entries}
use Rattle.ordered_keys.proofs.list.TreeList.reserve.Given as goal

abbrev pub invariant-loop-self : goal.invariant-loop-self
invariant-loop-self g l = record {
  tree : l.self-inside.root ≡ l.initial.self-inside.root;
  grows : vec_len l.initial.self-inside.unused ≤ vec_len l.self-inside.unused;
  room : l.more + length (entries l.self-inside.root) ≤ vec_capacity l.self-inside.unused;
  all : vec_len l.self-inside.unused + length (entries l.self-inside.root) ≤ vec_capacity l.self-inside.unused;
}

abbrev pub decreases-loop-self : goal.decreases-loop-self
decreases-loop-self g l = l.more - vec_len l.self-inside.unused
