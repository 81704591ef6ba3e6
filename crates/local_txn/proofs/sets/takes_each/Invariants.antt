-- Column after column.
use Rattle.std.proofs.Common.{◌≡◌, drop}
use Rattle.txn_effects.specs.ByColumn.{takes_each}
use Rattle.local_txn.proofs.sets.takes_each.Given as goal

-- what is left decides
abbrev pub invariant-loop-i : goal.invariant-loop-i
invariant-loop-i l = record {
  rest : takes_each l.columns l.sets ≡ takes_each (drop l.i l.columns) (drop l.i l.sets);
}
