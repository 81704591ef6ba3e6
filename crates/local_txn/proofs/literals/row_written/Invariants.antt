-- Gathering the values of literals and blanks.
use Rattle.std.proofs.Common.{◌≡◌, ◌+◌, ◌++◌, length, drop}
use Rattle.txn_effects.specs.Literals.{values_of}
use Rattle.txn_effects.specs.Filled.{written_columns, row_written}
use Rattle.local_txn.proofs.literals.row_written.Given as goal

-- the values so far are gathered, and there is a literal for each of the columns to come
abbrev pub invariant-loop-column : goal.invariant-loop-column
invariant-loop-column l = record {
  left : length (written_columns (drop l.column-index l.columns)) + l.read ≡ length l.literals;
  rest : row_written l.columns (values_of l.literals) ≡ l.cells ++ row_written (drop l.column-index l.columns) (values_of (drop l.read l.literals));
}
