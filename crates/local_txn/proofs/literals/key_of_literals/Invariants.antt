-- Gathering the values of literals.
use Rattle.std.proofs.Common.{◌≡◌, take}
use Rattle.txn_effects.specs.Literals.{values_of}
use Rattle.local_txn.proofs.literals.key_of_literals.Given as goal

-- the values so far are gathered
abbrev pub invariant-loop-i : goal.invariant-loop-i
invariant-loop-i l = record {
  so_far : l.key ≡ values_of (take l.i l.literals);
}
