-- Room change by change.
use Rattle.std.proofs.Common.{◌≡◌, ℕ, ◌<◌, ◌≤◌, ◌⊎◌, length, drop}
use Rattle.std.specs.Prelude.{slice_index}
use Rattle.std.specs.List.{AllByRecursion}
use Rattle.txn_apply.specs.Making.{changes_in}
use Rattle.txn_apply.proofs.making.make_room.Given as goal

-- a table has room for its changes, or all of them are to come
abbrev pub invariant-loop-change : goal.invariant-loop-change
invariant-loop-change g l =
    let schema = g.R.RowStore.schema l.fn.store in
    record {
      same : g.R.RowStore.schema l.store ≡ schema;
      kept : g.R.RowStore.tables l.store ≡ g.R.RowStore.tables l.fn.store;
      below : AllByRecursion (λ change. change.table < length schema.tables) (drop l.change-index l.change-items);
      room : (t : ℕ) → (changes_in t l.changes.rows ≤ slice_index (g.R.RowStore.spare l.store) t) ⊎ (changes_in t l.changes.rows ≤ changes_in t (drop l.change-index l.change-items));
    }
