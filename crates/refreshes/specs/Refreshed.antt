-- What a refresh leaves.
use Rattle.std.specs.Prelude.{◌≡◌, ◌≢◌, ℕ, ◌≤◌, List, Result, IfOk, OnOk, OnErr, slice_index, slice_set}
use Rattle.std.specs.List.{AllByRecursion}
use Rattle.rep_schema.specs.declared.schema.Schema.{Schema}
use Rattle.rep_schema.specs.declared.change.Change.{Change}
use Rattle.rep_schema.specs.declared.change.Changes.{Changes}
use Rattle.rep_schema.specs.Tables.{Rows, columns_of, find_row, rows_of}
use Rattle.rep_schema.specs.Changes.{LeadsTo, room_for}
use Rattle.rep_schema.specs.Putting.{StoreState}
use Rattle.change_logs.specs.Noting.{key_changed}

-- a change of a row that isn't what it was
abbrev pub ChangesARow : Schema → List Rows → List Rows → Change → Type 0
ChangesARow schema earlier later change =
    find_row (columns_of schema change.table) (key_changed schema change) (rows_of earlier change.table)
    ≢ find_row (columns_of schema change.table) (key_changed schema change) (rows_of later change.table)

-- a table of a store gets these rows, by changes of rows that aren't what they were; there is room to take them back. the
-- other tables stay, with their room. without memory the store's rows are as before, and no room is given up
pub record RefreshesTo {E : Type 0} (table : ℕ) (rows : Rows) (old new : StoreState) (outcome : Result Changes E) : Type 0 where
  pub tables : OnOk outcome (new.tables ≡ slice_set old.tables table rows)
  pub leads : IfOk outcome (λ changes. LeadsTo old.schema changes.rows old.tables new.tables)
  pub differ : IfOk outcome (λ changes. AllByRecursion (ChangesARow old.schema old.tables new.tables) changes.rows)
  pub room : IfOk outcome (λ changes. (t : ℕ) → room_for t changes.rows ≤ slice_index new.spare t)
  pub same : OnErr outcome (new.tables ≡ old.tables)
  pub kept : OnErr outcome (slice_index old.spare table ≤ slice_index new.spare table)
  pub others : (t : ℕ) → t ≢ table → slice_index new.spare t ≡ slice_index old.spare t
  pub schema : new.schema ≡ old.schema
