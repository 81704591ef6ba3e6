-- Comparing two rows place by place.
use Rattle.std.proofs.Common.{◌≡◌, drop}
use Rattle.rep_schema.specs.Tables.{picked}
use Rattle.page_tables.specs.Index.{picked_cmp}
use Rattle.page_tables.proofs.sought.compare_picked.Given as goal

-- the values at the places that are left decide
abbrev pub invariant-loop-place : goal.invariant-loop-place
invariant-loop-place l = picked_cmp (picked (drop l.place-index l.places) l.a) (picked (drop l.place-index l.places) l.b) ≡ picked_cmp (picked l.places l.a) (picked l.places l.b)
