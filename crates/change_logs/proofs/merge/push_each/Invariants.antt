-- The keys so far, and those that are left, are all of them.
use Rattle.std.proofs.Common.{◌≡◌, ◌++◌, drop}
use Rattle.change_logs.proofs.merge.push_each.Given as goal

abbrev pub invariant-loop-key : goal.invariant-loop-key
invariant-loop-key l = l.keys ++ drop l.key-index l.more ≡ l.initial.keys ++ l.more
