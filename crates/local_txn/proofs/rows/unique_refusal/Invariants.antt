-- Testing a row constraint by constraint.
use Rattle.std.proofs.Common.{◌≡◌, map, drop}
use Rattle.rep_schema.specs.Tables.{constraints_of}
use Rattle.rep_values.specs.RefusalSteps.{first_refusal}
use Rattle.txn_effects.specs.Statements.{taken_step}
use Rattle.local_txn.proofs.rows.unique_refusal.Given as goal

-- none of the constraints so far refuses, and those that are left decide
abbrev pub invariant-loop-i : goal.invariant-loop-i
invariant-loop-i g l =
    let schema = g.R.RowStore.schema l.store in
    let step = taken_step schema (g.R.RowStore.tables l.store) l.table l.row in
    first_refusal (map step (constraints_of schema l.table)) ≡ first_refusal (map step (drop l.i (constraints_of schema l.table)))
