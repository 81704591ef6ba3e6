-- Copying rows one by one.
use Rattle.std.proofs.Common.{◌≡◌, ◌≤◌, take, vec_capacity}
use Rattle.page_tables.proofs.slots.copy_rows.Given as goal

-- the rows so far are copied, and there is room for the others
abbrev pub invariant-loop-row : goal.invariant-loop-row
invariant-loop-row l = (l.copied.items ≡ take l.row-index l.rows.items) × (vec_capacity l.rows ≤ vec_capacity l.copied)
