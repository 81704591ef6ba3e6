-- Testing literal after literal.
use Rattle.std.proofs.Common.{◌≡◌, drop}
use Rattle.txn_effects.specs.Literals.{literals_fit}
use Rattle.world_calls.proofs.literals.literals_fit.Given as goal

-- what is left decides
abbrev pub invariant-loop-place : goal.invariant-loop-place
invariant-loop-place l = literals_fit l.schema (drop l.place l.columns) (drop l.place l.literals) ≡ literals_fit l.schema l.columns l.literals
