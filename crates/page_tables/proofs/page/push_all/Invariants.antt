-- Pushing slots one by one.
use Rattle.std.proofs.Common.{◌≡◌, ◌++◌, take, vec_capacity}
use Rattle.page_tables.proofs.page.push_all.Given as goal

-- the slots so far are pushed
abbrev pub invariant-loop-slot : goal.invariant-loop-slot
invariant-loop-slot l = (l.slots.items ≡ l.fn.slots.items ++ take l.slot-index l.more) × (vec_capacity l.slots ≡ vec_capacity l.fn.slots)
