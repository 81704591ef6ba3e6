-- What is kept of changes, so that they can be taken back.
use Rattle.std.specs.Prelude.{◌≡◌, ℕ, ◌≤◌, List, slice_index}
use Rattle.rep_schema.specs.declared.change.Change.{Change}
use Rattle.rep_schema.specs.Tables.{Rows}
use Rattle.rep_schema.specs.Changes.{LeadsTo, room_for}
use Rattle.rep_schema.specs.Putting.{StoreState}

-- so many rows were taken that no table wants room for more of them, to take the changes back
pub record IsCounted (changes : List Change) (taken : ℕ) : Type 0 where
  pub enough : (table : ℕ) → room_for table changes ≤ taken

-- a step of a store whose changes are kept: from wherever the changes before led to the tables before, those after lead to the
-- tables after; and where there was room to take those back, there is room to take these back. the schema stays
pub record KeepsTrail (old new : StoreState) (before after : List Change) : Type 0 where
  pub schema : new.schema ≡ old.schema
  pub leads : (earlier : List Rows) → LeadsTo old.schema before earlier old.tables → LeadsTo old.schema after earlier new.tables
  pub room : ((t : ℕ) → room_for t before ≤ slice_index old.spare t) → (t : ℕ) → room_for t after ≤ slice_index new.spare t
