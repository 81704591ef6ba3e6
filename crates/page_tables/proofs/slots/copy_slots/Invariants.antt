-- Copying slots one by one.
use Rattle.std.proofs.Common.{◌≡◌, ◌≤◌, take, vec_capacity}
use Rattle.page_tables.proofs.slots.copy_slots.Given as goal

-- the slots so far are copied, and there is room for the others
abbrev pub invariant-loop-slot : goal.invariant-loop-slot
invariant-loop-slot l = (l.copied.items ≡ take l.slot-index l.slots.items) × (vec_capacity l.slots ≤ vec_capacity l.copied)
