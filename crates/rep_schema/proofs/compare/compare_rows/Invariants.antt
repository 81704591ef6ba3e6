-- Walking two rows beside one another.
use Rattle.std.proofs.Common.{◌≡◌}
use Rattle.rep_schema.specs.Tables.{row_cmp}
use Rattle.rep_schema.proofs.RowWalk.{row_cmp_from}
use Rattle.rep_schema.proofs.compare.compare_rows.Given as goal

-- the keys are the same so far, so what is left decides
abbrev pub invariant-loop-i : goal.invariant-loop-i
invariant-loop-i l = row_cmp l.columns l.a l.b ≡ row_cmp_from l.columns l.a l.b l.i
