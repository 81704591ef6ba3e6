-- Marking place after place.
use Rattle.std.proofs.Common.{◌≡◌, ℕ, ◌||◌, length, take}
use Rattle.rep_schema.specs.Kinds.{has_place}
use Rattle.txn_effects.specs.Chosen.{chosen_at}
use Rattle.local_txn.proofs.filled.choose.Given as goal

-- the places so far are marked
abbrev pub invariant-loop-place : goal.invariant-loop-place
invariant-loop-place l = record {
  size : length l.chosen ≡ 32;
  so_far : (place : ℕ) → chosen_at l.chosen place ≡ (chosen_at l.initial.chosen place || has_place (take l.place-index l.places) place);
}
