-- What refreshes of several snapshots have done to a store.
use Rattle.std.specs.Prelude.{ℕ, ◌≤◌, List, [], ◌∷◌, ◌++◌, slice_index}
use Rattle.rep_schema.specs.declared.change.Change.{Change}
use Rattle.rep_schema.specs.declared.change.Changes.{Changes}
use Rattle.rep_schema.specs.Tables.{Rows}
use Rattle.rep_schema.specs.Changes.{LeadsTo, room_for}
use Rattle.rep_schema.specs.Putting.{StoreState}

-- the changes of several refreshes, in their order
abbrev pub all_changes : List Changes → List Change
all_changes [] = []
all_changes (changes ∷ done) = changes.rows ++ all_changes done

-- the changes have led from these earlier tables to the present ones, and there is room to take them back
pub record HaveDone (done : List Changes) (earlier : List Rows) (store : StoreState) : Type 0 where
  pub lead : LeadsTo store.schema (all_changes done) earlier store.tables
  pub room : (t : ℕ) → room_for t (all_changes done) ≤ slice_index store.spare t
