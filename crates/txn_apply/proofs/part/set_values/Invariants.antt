-- Writing values place by place.
use Rattle.std.proofs.Common.{◌≡◌, length, drop}
use Rattle.rep_schema.specs.Groups.{with_values}
use Rattle.txn_apply.proofs.part.set_values.Given as goal

-- the values that are left make the row
abbrev pub invariant-loop-i : goal.invariant-loop-i
invariant-loop-i l = record {
  long : length l.row ≡ length l.initial.row;
  rest : with_values (drop l.i l.places) (drop l.i l.values) l.row ≡ with_values l.places l.values l.initial.row;
}
