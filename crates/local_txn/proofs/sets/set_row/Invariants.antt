-- Value after value.
use Rattle.std.proofs.Common.{◌≡◌, ◌++◌, true, length, drop, take}
use Rattle.rep_schema.specs.Kinds.{row_in_range}
use Rattle.txn_effects.specs.ByColumn.{row_by}
use Rattle.local_txn.proofs.sets.set_row.Given as goal

-- the values so far are set, and all are in range
abbrev pub invariant-loop-i : goal.invariant-loop-i
invariant-loop-i l = record {
  size : length l.row ≡ length l.fn.row;
  range : row_in_range l.row ≡ true;
  rest : row_by l.sets l.fn.row ≡ take l.i l.row ++ row_by (drop l.i l.sets) (drop l.i l.row);
}
