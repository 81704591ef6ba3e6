-- Comparing a row's values with others, place by place.
use Rattle.std.proofs.Common.{◌≡◌, ◌≤◌, length, drop}
use Rattle.std.specs.Prelude.{◌↔◌}
use Rattle.rep_schema.specs.Groups.{values_at}
use Rattle.rep_schema.proofs.groups.has_values.Given as goal

-- what is left decides
abbrev pub invariant-loop-place : goal.invariant-loop-place
invariant-loop-place l = record {
  within : l.read ≤ length l.values;
  rest : (values_at l.places l.row ≡ l.values) ↔ (values_at (drop l.place-index l.places) l.row ≡ drop l.read l.values);
}
