-- What is left decides.
use Rattle.std.proofs.Common.{◌≡◌, length, drop}
use Rattle.rep_schema.specs.Groups.{are_same}
use Rattle.proc_state.specs.Carriers.{blanks}
use Rattle.proc_calls.proofs.carrying.are_blank.Given as goal

abbrev pub invariant-loop-i : goal.invariant-loop-i
invariant-loop-i l = record {
  long : length l.columns ≡ length l.values;
  rest : are_same l.values (blanks l.columns) ≡ are_same (drop l.i l.values) (blanks (drop l.i l.columns));
}
