-- Testing values place by place.
use Rattle.std.proofs.Common.{◌≤◌, length, drop}
use Rattle.std.specs.Prelude.{◌↔◌}
use Rattle.rep_schema.specs.Tables.{RowFits}
use Rattle.rep_schema.specs.Groups.{values_at}
use Rattle.conflict_detect.proofs.fitting.values_fit.Given as goal

-- what is left decides
abbrev pub invariant-loop-i : goal.invariant-loop-i
invariant-loop-i l = record {
  within : l.i ≤ length l.values;
  rest : RowFits (values_at l.places l.columns) l.values ↔ RowFits (values_at (drop l.i l.places) l.columns) (drop l.i l.values);
}
