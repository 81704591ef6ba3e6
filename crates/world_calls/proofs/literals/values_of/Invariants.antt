-- Gathering values one by one.
use Rattle.std.proofs.Common.{◌≡◌, ◌++◌, drop}
use Rattle.txn_effects.specs.Literals.{values_of}
use Rattle.world_calls.proofs.literals.values_of.Given as goal

-- those so far, and those of the literals to come
abbrev pub invariant-loop-literal : goal.invariant-loop-literal
invariant-loop-literal l = l.values ++ values_of (drop l.literal-index l.literals) ≡ values_of l.literals
