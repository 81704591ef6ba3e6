-- Taking changes back, the last one first.
use Rattle.std.proofs.Common.{◌≡◌, ℕ, ◌+◌, ◌<◌, ◌≤◌, length}
use Rattle.std.specs.Prelude.{slice_index, vec_len}
use Rattle.rep_schema.specs.Changes.{HaveLed, room_for}
use Rattle.rep_schema.proofs.TakingBack.{before_changes}
use Rattle.rep_schema.proofs.change.undo.Given as goal

-- the changes that are left have led to the present tables, and taking them back gives what taking all back gives
abbrev pub invariant-loop-change : goal.invariant-loop-change
invariant-loop-change g l =
    let schema = g.R.RowStore.schema in
    let tables = g.R.RowStore.tables in
    let spare = g.R.RowStore.spare in
    record {
      same : schema l.store ≡ schema l.fn.store;
      led : HaveLed (schema l.fn.store) l.left.items (tables l.store);
      undone : before_changes (schema l.fn.store) l.left.items (tables l.store) ≡ before_changes (schema l.fn.store) l.fn.changes.rows (tables l.fn.store);
      room : (t : ℕ) → t < length (schema l.fn.store).tables → room_for t l.left.items ≤ slice_index (spare l.store) t;
      taken : (t : ℕ) → slice_index (spare l.fn.store) t + room_for t l.left.items ≤ slice_index (spare l.store) t + room_for t l.fn.changes.rows;
    }

abbrev pub decreases-loop-change : goal.decreases-loop-change
decreases-loop-change g l = vec_len l.left
