-- Change by change.
use Rattle.std.proofs.Common.{◌≡◌, ℕ, ◌+◌, ◌≤◌, length, drop}
use Rattle.std.specs.Prelude.{slice_index}
use Rattle.rep_schema.specs.Changes.{LeadsTo, room_for}
use Rattle.rep_schema.specs.Putting.{after_changes}
use Rattle.txn_apply.specs.Making.{changes_in}
use Rattle.txn_apply.proofs.making.make_changes.Given as goal

-- the changes to come lead on from the present tables to the last ones, and there is room for them and for taking back
-- those that were made
abbrev pub invariant-loop-change : goal.invariant-loop-change
invariant-loop-change g l =
    let schema = g.R.RowStore.schema l.fn.store in
    let now = g.R.RowStore.tables l.store in
    let all = l.fn.changes.rows in
    let left = drop (length l.yielded) l.fn.changes.rows in
    record {
      same : g.R.RowStore.schema l.store ≡ schema;
      lead : LeadsTo schema left now (after_changes schema left now);
      made : after_changes schema left now ≡ after_changes schema all (g.R.RowStore.tables l.fn.store);
      room : (t : ℕ) → changes_in t left + room_for t all ≤ slice_index (g.R.RowStore.spare l.store) t + room_for t left;
    }
