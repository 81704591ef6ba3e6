-- One statement after the other.
use Rattle.std.proofs.Common.{◌≡◌, ℕ, ◌+◌, ◌≤◌, length, drop}
use Rattle.std.specs.Prelude.{slice_index, vec_len, vec_capacity}
use Rattle.rep_schema.specs.Changes.{room_for}
use Rattle.txn_effects.specs.Laws.{IsApplied}
use Rattle.rep_schema.specs.Putting.{after_changes}
use Rattle.txn_effects.specs.Locals.{block_effect_behind, statements_effect}
use Rattle.local_txn.specs.Running.{block_state_of}
use Rattle.txn_effects.proofs.StatementEffects.{effect_with}
use Rattle.local_txn.proofs.run.run_statements.Given as goal

-- the statements so far have run, and those that are left decide
abbrev pub invariant-loop-i : goal.invariant-loop-i
invariant-loop-i g l =
    let schema = g.R.RowStore.schema l.fn.store in
    let now = g.R.RowStore.tables l.store in
    let before = g.R.RowStore.tables l.fn.store in
    record {
      same : g.R.RowStore.schema l.store ≡ schema;
      stands : l.footing.here ≡ l.fn.footing.here;
      number : vec_len l.done ≤ l.i;
      capacity : length l.statements ≤ vec_capacity l.done;
      made : now ≡ after_changes schema l.done.items before;
      applied : IsApplied schema before (effect_with schema l.done.items);
      room : (t : ℕ) → room_for t l.done.items ≤ slice_index (g.R.RowStore.spare l.store) t;
      outcome : statements_effect schema l.fn.footing.here 1 l.statements (block_state_of l.fn.footing before)
          ≡ block_effect_behind l.done.items (statements_effect schema l.fn.footing.here (l.i + 1) (drop l.i l.statements) (block_state_of l.footing now));
    }
