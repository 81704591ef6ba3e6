-- Rows that are put or taken, and the changes that this makes.
use Rattle.std.specs.Prelude.{◌≡◌, ℕ, ◌+◌, ◌≤◌, ◌==◌, Bool, true, false, cond, List, [], ◌∷◌, Option, Some, None, Result, IfOk, OnErr, slice_index}
use Rattle.rep_schema.specs.declared.schema.Schema.{Schema}
use Rattle.rep_schema.specs.declared.change.Change.{Change}
use Rattle.rep_schema.specs.Tables.{Cells, Rows}
use Rattle.rep_schema.specs.Groups.{are_same}
use Rattle.rep_schema.specs.Changes.{after_change}

-- the same row, or none both times
abbrev pub is_unchanged : Option Cells → Option Cells → Bool
is_unchanged None None = true
is_unchanged None (Some row) = false
is_unchanged (Some row) None = false
is_unchanged (Some row) (Some other) = are_same row other

-- the change of a row, where it changed
abbrev pub changes_between : ℕ → Option Cells → Option Cells → List Change
changes_between table before after = cond (is_unchanged before after) [] (record { table = table; before = before; after = after } ∷ [])

-- no change, or one
abbrev pub changes_of : Option Change → List Change
changes_of None = []
changes_of (Some change) = change ∷ []

-- the tables after changes in their order
abbrev pub after_changes : Schema → List Change → List Rows → List Rows
after_changes schema [] tables = tables
after_changes schema (change ∷ changes) tables = after_changes schema changes (after_change schema change tables)

-- what a store is before or after a step
pub record StoreState : Type 0 where
  pub schema : Schema
  pub tables : List Rows
  pub spare : List ℕ

-- a step in a table of a store, which makes no change, or one, or fails: where it fails, tables and room are as before;
-- else its change is made, which uses up the room for one row at most. the schema stays
pub record StepsIn {E : Type 0} (table : ℕ) (old new : StoreState) (outcome : Result (Option Change) E) : Type 0 where
  pub tables : IfOk outcome (λ change. new.tables ≡ after_changes old.schema (changes_of change) old.tables)
  pub same : OnErr outcome (new.tables ≡ old.tables)
  pub same_room : OnErr outcome (new.spare ≡ old.spare)
  pub schema : new.schema ≡ old.schema
  pub room : (t : ℕ) → slice_index old.spare t ≤ slice_index new.spare t + cond (t == table) 1 0
