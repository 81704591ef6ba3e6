-- Comparing two rows place by place.
use Rattle.std.proofs.Common.{◌≡◌, take}
use Rattle.rep_schema.specs.Tables.{picked}
use Rattle.rep_schema.proofs.compare.same_picked.Given as goal

-- the values at the places so far are the same
abbrev pub invariant-loop-place : goal.invariant-loop-place
invariant-loop-place l = picked (take l.place-index l.places) l.a ≡ picked (take l.place-index l.places) l.b
