-- One call after the other.
use Rattle.std.proofs.Common.{◌≡◌, ℕ, ◌+◌, ◌≤◌, false, length, drop}
use Rattle.std.specs.Prelude.{slice_index, vec_len, vec_capacity}
use Rattle.rep_schema.specs.Changes.{room_for}
use Rattle.txn_effects.specs.Laws.{IsApplied}
use Rattle.rep_schema.specs.Putting.{after_changes}
use Rattle.unique_resolve.specs.Numbers.{has_sequences}
use Rattle.txn_effects.specs.Transactions.{effect_behind, calls_effect}
use Rattle.txn_apply.proofs.apply.apply_txn.Given as goal

-- the calls so far are applied, and those that are left decide
abbrev pub invariant-loop-i : goal.invariant-loop-i
invariant-loop-i g l =
    let schema = g.R.RowStore.schema l.fn.store in
    let now = g.R.RowStore.tables l.store in
    let before = g.R.RowStore.tables l.fn.store in
    record {
      same : g.R.RowStore.schema l.store ≡ schema;
      number : vec_len l.done ≤ l.i;
      capacity : length l.calls ≤ vec_capacity l.done;
      still : has_sequences schema ≡ false → l.counters ≡ l.fn.counters;
      made : now ≡ after_changes schema l.done.items before;
      applied : IsApplied schema before (record { changes = l.done.items; numbers = l.counters });
      room : (t : ℕ) → room_for t l.done.items ≤ slice_index (g.R.RowStore.spare l.store) t;
      outcome : calls_effect schema l.origin 1 l.calls before l.fn.counters ≡ effect_behind l.done.items (calls_effect schema l.origin (l.i + 1) (drop l.i l.calls) now l.counters);
    }
