-- Marking the columns of group after group.
use Rattle.std.proofs.Common.{◌≡◌, ℕ}
use Rattle.std.specs.List.{list_any, range_with_len}
use Rattle.txn_effects.specs.Chosen.{chosen_at, is_modified_in}
use Rattle.local_txn.proofs.filled.modified_places.Given as goal

-- those of the groups so far are marked
abbrev pub invariant-loop-group : goal.invariant-loop-group
invariant-loop-group l = record {
  so_far : (place : ℕ) → chosen_at l.chosen place ≡ list_any (λ group. is_modified_in l.schema l.table l.before l.after group place) (range_with_len 0 l.group);
}
