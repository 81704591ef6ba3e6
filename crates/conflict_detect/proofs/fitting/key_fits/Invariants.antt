-- Testing a key column by column.
use Rattle.std.proofs.Common.{◌≤◌, length, drop}
use Rattle.std.specs.Prelude.{◌↔◌}
use Rattle.rep_schema.specs.Tables.{key_columns, RowFits}
use Rattle.conflict_detect.proofs.fitting.key_fits.Given as goal

-- what is left decides
abbrev pub invariant-loop-column : goal.invariant-loop-column
invariant-loop-column l = record {
  within : l.read ≤ length l.key;
  rest : RowFits (key_columns l.columns) l.key ↔ RowFits (key_columns (drop l.column-index l.columns)) (drop l.read l.key);
}
