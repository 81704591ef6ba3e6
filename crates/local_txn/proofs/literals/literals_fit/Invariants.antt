-- Testing the literals of the given columns, one after another.
use Rattle.std.proofs.Common.{◌≡◌, ◌≤◌, length, drop}
use Rattle.std.specs.Prelude.{filter}
use Rattle.txn_effects.specs.Literals.{literals_fit, is_given}
use Rattle.local_txn.proofs.literals.literals_fit.Given as goal

-- what is left decides
abbrev pub invariant-loop-column : goal.invariant-loop-column
invariant-loop-column l = record {
  within : l.read ≤ length l.literals;
  rest : literals_fit l.schema (filter (is_given l.given) l.columns) l.literals ≡ literals_fit l.schema (filter (is_given l.given) (drop l.column-index l.columns)) (drop l.read l.literals);
}
