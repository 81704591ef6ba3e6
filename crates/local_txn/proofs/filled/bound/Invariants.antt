-- The stamps of a row, one after another.
use Rattle.std.proofs.Common.{◌≡◌, max, drop}
use Rattle.txn_effects.specs.Filled.{bound_from}
use Rattle.txn_effects.specs.Chosen.{chosen_at}
use Rattle.local_txn.proofs.filled.bound.Given as goal

-- the bound so far, and that of the stamps to come
abbrev pub invariant-loop-i : goal.invariant-loop-i
invariant-loop-i l = record {
  rest : bound_from (chosen_at l.chosen) 0 l.columns l.row ≡ max l.bound (bound_from (chosen_at l.chosen) l.i (drop l.i l.columns) (drop l.i l.row));
}
