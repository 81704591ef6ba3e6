-- Filling column after column in.
use Rattle.std.proofs.Common.{◌≡◌, ◌++◌, length, drop, take}
use Rattle.txn_effects.specs.Filled.{filled_from}
use Rattle.txn_effects.specs.Chosen.{chosen_at}
use Rattle.local_txn.proofs.filled.fill.Given as goal

-- the columns so far are filled in, and those to come are as they were
abbrev pub invariant-loop-i : goal.invariant-loop-i
invariant-loop-i l = record {
  size : length l.columns ≡ length l.row;
  rest : filled_from (record { stamp = l.stamp; site = l.site }) (chosen_at l.chosen) 0 l.columns l.initial.row
      ≡ take l.i l.row ++ filled_from (record { stamp = l.stamp; site = l.site }) (chosen_at l.chosen) l.i (drop l.i l.columns) (drop l.i l.row);
}
