-- Testing a row column by column.
use Rattle.std.proofs.Common.{◌≡◌, length, drop}
use Rattle.std.specs.Prelude.{◌↔◌}
use Rattle.rep_schema.specs.Tables.{RowFits}
use Rattle.rep_schema.proofs.conditions.fits_each.Given as goal

-- what is left decides
abbrev pub invariant-loop-i : goal.invariant-loop-i
invariant-loop-i l = record {
  long : length l.columns ≡ length l.row;
  rest : RowFits l.columns l.row ↔ RowFits (drop l.i l.columns) (drop l.i l.row);
}
