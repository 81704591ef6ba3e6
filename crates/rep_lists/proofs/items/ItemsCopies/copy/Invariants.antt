-- Copying a list value by value.
use Rattle.std.proofs.Common.{◌≡◌, take}
use Rattle.rep_lists.proofs.items.ItemsCopies.copy.Given as goal

-- the values so far are copied
abbrev pub invariant-loop-value : goal.invariant-loop-value
invariant-loop-value g l = l.kept.items ≡ take l.value-index l.self
