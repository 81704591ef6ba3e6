-- Column after column.
use Rattle.std.proofs.Common.{◌≡◌, drop}
use Rattle.txn_effects.specs.ByColumn.{fills_some}
use Rattle.local_txn.proofs.sets.fills_some.Given as goal

-- what is left decides
abbrev pub invariant-loop-i : goal.invariant-loop-i
invariant-loop-i l = record {
  rest : fills_some l.columns l.sets ≡ fills_some (drop l.i l.columns) (drop l.i l.sets);
}
