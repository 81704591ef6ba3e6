-- Taking the changes of refreshes back, those of the last one first.
use Rattle.std.proofs.Common.{◌≡◌, ℕ, ◌≤◌, List}
use Rattle.std.specs.Prelude.{slice_index, vec_len}
use Rattle.rep_schema.specs.Tables.{Rows, AreTables}
use Rattle.rep_schema.specs.Changes.{LeadsTo, room_for}
use Rattle.refreshes.specs.Done.{all_changes}
use Rattle.refreshes.proofs.done.undo_all.Given as goal

-- the changes that are left lead to the present tables from those from which all of them led
abbrev pub invariant-loop-changes : goal.invariant-loop-changes
invariant-loop-changes g l =
    let schema = g.R.RowStore.schema in
    let tables = g.R.RowStore.tables in
    record {
      same : schema l.store ≡ schema l.fn.store;
      lead : (earlier : List Rows) → AreTables (schema l.fn.store) earlier → LeadsTo (schema l.fn.store) (all_changes l.fn.done.items) earlier (tables l.fn.store)
          → LeadsTo (schema l.fn.store) (all_changes l.left.items) earlier (tables l.store);
      room : (t : ℕ) → room_for t (all_changes l.left.items) ≤ slice_index (g.R.RowStore.spare l.store) t;
    }

abbrev pub decreases-loop-changes : goal.decreases-loop-changes
decreases-loop-changes g l = vec_len l.left
