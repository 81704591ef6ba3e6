-- Walking a row's key beside another key.
use Rattle.std.proofs.Common.{◌≡◌, ◌≤◌, length, drop}
use Rattle.rep_values.specs.Order.{key_cmp}
use Rattle.rep_schema.specs.Tables.{row_beside}
use Rattle.rep_schema.proofs.KeyWalk.{key_from}
use Rattle.rep_schema.proofs.compare.compare_row.Given as goal

-- what is read so far is the same, so what is left decides
abbrev pub invariant-loop-i : goal.invariant-loop-i
invariant-loop-i l = record {
  within : l.read ≤ length l.key;
  rest : row_beside l.columns l.key l.row ≡ key_cmp (key_from l.columns l.row l.i) (drop l.read l.key);
}
