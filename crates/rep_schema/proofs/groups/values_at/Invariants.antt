-- Gathering a row's values place by place.
use Rattle.std.proofs.Common.{◌≡◌, ◌≤◌, length, take, vec_capacity}
use Rattle.std.specs.Prelude.{vec_len}
use Rattle.rep_schema.specs.Groups.{values_at}
use Rattle.rep_schema.proofs.groups.values_at.Given as goal

-- the values at the places so far are gathered, and there is room for the others
abbrev pub invariant-loop-place : goal.invariant-loop-place
invariant-loop-place l = record {
  so_far : l.values.items ≡ values_at (take l.place-index l.places) l.row;
  few : vec_len l.values ≤ l.place-index;
  room : length l.places ≤ vec_capacity l.values;
}
