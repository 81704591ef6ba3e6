-- Looking for a STAMP.
use Rattle.std.proofs.Common.{◌≡◌, drop}
use Rattle.txn_effects.specs.Filled.{has_stamp_from}
use Rattle.txn_effects.specs.Chosen.{chosen_at}
use Rattle.local_txn.proofs.filled.has_stamp.Given as goal

-- what is left decides
abbrev pub invariant-loop-i : goal.invariant-loop-i
invariant-loop-i l = record {
  rest : has_stamp_from (chosen_at l.chosen) 0 l.columns ≡ has_stamp_from (chosen_at l.chosen) l.i (drop l.i l.columns);
}
