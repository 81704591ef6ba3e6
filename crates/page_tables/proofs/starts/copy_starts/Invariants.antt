-- Copying starts one by one.
use Rattle.std.proofs.Common.{◌≡◌, ◌≤◌, take, vec_capacity}
use Rattle.page_tables.proofs.starts.copy_starts.Given as goal

-- the starts so far are copied, and there are places for the others
abbrev pub invariant-loop-start : goal.invariant-loop-start
invariant-loop-start l = (l.copied.items ≡ take l.start-index l.starts) × (l.places ≤ vec_capacity l.copied)
