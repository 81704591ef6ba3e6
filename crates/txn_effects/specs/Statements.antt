-- What one statement does: why it is refused, or which row it changes and how.
use Rattle.std.specs.Prelude.{ℕ, true, false, not, ◌&&◌, List, [], ◌∷◌, ◌++◌, map, Option, Some, None, is_some}
use Rattle.std.specs.Option.{option_map}
use Rattle.rep_values.specs.declared.literal.Literal.{Literal}
use Rattle.rep_values.specs.declared.refusal.Refusal.{Refusal}
use Rattle.rep_values.specs.declared.refusal.Refusal.TheVariants as refusal
use Rattle.rep_values.specs.RefusalSteps.{refused, known, first_refusal}
use Rattle.rep_schema.specs.declared.schema.Schema.{Schema}
use Rattle.rep_schema.specs.declared.schema.Constraint.{Constraint}
use Rattle.rep_schema.specs.declared.change.Change.{Change}
use Rattle.rep_schema.specs.Tables.{Cells, Rows, columns_of, constraints_of, key_of, find_row, rows_of}
use Rattle.rep_schema.specs.Kinds.{row_in_range}
use Rattle.rep_schema.specs.Checks.{failed_check}
use Rattle.rep_schema.specs.Named.{table_place}
use Rattle.rep_schema.specs.Putting.{changes_between, after_changes}
use Rattle.rep_calls.specs.declared.statement.Statement.{Statement}
use Rattle.rep_calls.specs.declared.statement.Statement.TheVariants.{Insert, Update, Delete}
use Rattle.rep_calls.specs.declared.statement.Set.{Set}
use Rattle.unique_resolve.specs.Settling.{is_held}
use Rattle.txn_effects.specs.declared.local.Here.{Here}
use Rattle.txn_effects.specs.declared.local.Stamps.{Stamps}
use Rattle.txn_effects.specs.declared.side.Side.{Side}
use Rattle.txn_effects.specs.Held.{statement_table, held_table}
use Rattle.txn_effects.specs.Literals.{literals_fit, key_literals_fit, values_of}
use Rattle.txn_effects.specs.Sets.{names_columns, sets_fit, sets_filled, row_with}
use Rattle.txn_effects.specs.Filled.{written_columns, row_written, RowMade, inserted, updated}
use Rattle.txn_effects.specs.Convergent.{side_of, barred, own_key_step, rule_step}

-- where a block stands: the tables, the site's stamps, and which tables its statements are on, None before the first
pub record BlockState : Type 0 where
  pub tables : List Rows
  pub stamps : Stamps
  pub side : Option Side

-- the row of a table with a key, where it is there
abbrev pub row_at : Schema → List Rows → ℕ → Cells → Option Cells
row_at schema tables table key = find_row (columns_of schema table) key (rows_of tables table)

-- the row that an insert makes
abbrev pub insert_made : Schema → Here → Stamps → ℕ → List Literal → RowMade
insert_made schema here stamps table values = inserted (columns_of schema table) here.site stamps (row_written (columns_of schema table) (values_of values))

-- the row that an update makes of one
abbrev pub update_made : Schema → Here → Stamps → ℕ → List Set → Cells → RowMade
update_made schema here stamps table sets before = updated schema table here.site stamps before (row_with sets (columns_of schema table) before)

-- the row that a statement is about, where it is there, the row after it, and the site's last stamp then
pub record StatementOutcome : Type 0 where
  pub before : Option Cells
  pub after : Option Cells
  pub last : ℕ

abbrev pub insert_outcome : Option Cells → RowMade → StatementOutcome
insert_outcome before made = record { before = before; after = Some made.row; last = made.last }

abbrev pub update_outcome : ℕ → (Cells → RowMade) → Option Cells → StatementOutcome
update_outcome last make None = record { before = None; after = None; last = last }
update_outcome last make (Some row) = record { before = Some row; after = Some (make row).row; last = (make row).last }

-- an insert makes a row
abbrev pub insert_in : Schema → Here → BlockState → ℕ → List Literal → StatementOutcome
insert_in schema here standing table values = insert_outcome
    (row_at schema standing.tables table (key_of (columns_of schema table) (insert_made schema here standing.stamps table values).row))
    (insert_made schema here standing.stamps table values)

-- an update makes another row of one
abbrev pub update_in : Schema → Here → BlockState → ℕ → List Literal → List Set → StatementOutcome
update_in schema here standing table key sets = update_outcome standing.stamps.last (update_made schema here standing.stamps table sets)
    (row_at schema standing.tables table (values_of key))

-- a delete takes one
abbrev pub delete_in : Schema → BlockState → ℕ → List Literal → StatementOutcome
delete_in schema standing table key = record { before = row_at schema standing.tables table (values_of key); after = None; last = standing.stamps.last }

-- what a statement does in a table
abbrev pub outcome_in : Schema → Here → BlockState → ℕ → Statement → StatementOutcome
outcome_in schema here standing table (Insert name values) = insert_in schema here standing table values
outcome_in schema here standing table (Update name key sets) = update_in schema here standing table key sets
outcome_in schema here standing table (Delete name key) = delete_in schema standing table key

-- the change of a row that has an outcome, where it changed
abbrev pub outcome_changes : ℕ → StatementOutcome → List Change
outcome_changes table outcome = changes_between table outcome.before outcome.after

-- where a block stands after changes in a table
abbrev pub block_state_with : Schema → ℕ → List Change → ℕ → BlockState → BlockState
block_state_with schema table changes last standing = record {
  tables = after_changes schema changes standing.tables;
  stamps = record { clock = standing.stamps.clock; last = last };
  side = Some (side_of schema table);
}

abbrev pub changes_at : Schema → Here → BlockState → Option ℕ → Statement → List Change
changes_at schema here standing None statement = []
changes_at schema here standing (Some table) statement = outcome_changes table (outcome_in schema here standing table statement)

-- the change that a statement makes
abbrev pub statement_changes : Schema → Here → BlockState → Statement → List Change
statement_changes schema here standing statement = changes_at schema here standing (table_place schema (statement_table statement)) statement

abbrev pub block_state_at : Schema → Here → BlockState → Option ℕ → Statement → BlockState
block_state_at schema here standing None statement = standing
block_state_at schema here standing (Some table) statement = block_state_with schema table
    (outcome_changes table (outcome_in schema here standing table statement)) (outcome_in schema here standing table statement).last standing

-- where a block stands after a statement
abbrev pub block_state_after : Schema → Here → BlockState → Statement → BlockState
block_state_after schema here standing statement = block_state_at schema here standing (table_place schema (statement_table statement)) statement

-- another row has a new row's values in a secondary constraint
abbrev pub taken_step : Schema → List Rows → ℕ → Cells → Constraint → Option Refusal
taken_step schema tables table row constraint =
    refused (is_held (columns_of schema table) constraint.columns (rows_of tables table) row) (refusal.UniqueTaken constraint.name)

-- the secondary constraints in declared order
abbrev pub unique_steps : Schema → List Rows → ℕ → Cells → List (Option Refusal)
unique_steps schema tables table row = map (taken_step schema tables table row) (constraints_of schema table)

-- the first check that a new row doesn't meet
abbrev pub check_step : Schema → ℕ → Cells → Option Refusal
check_step schema table row = option_map (λ check. refusal.CheckFailed check.name) (failed_check schema table row)

-- a new row: its numbers and stamps in range, its values in the constraints free, the checks met
abbrev pub row_steps : Schema → List Rows → ℕ → Cells → List (Option Refusal)
row_steps schema tables table row = refused (not (row_in_range row)) refusal.ValueRange ∷ unique_steps schema tables table row ++ check_step schema table row ∷ []

-- what follows where the row is there
abbrev pub there : Option Cells → (Cells → List (Option Refusal)) → List (Option Refusal)
there None steps = Some refusal.NoRow ∷ []
there (Some row) steps = steps row

abbrev pub new_row_steps : Schema → Here → BlockState → ℕ → Cells → List (Option Refusal)
new_row_steps schema here standing table row =
    refused (is_some (row_at schema standing.tables table (key_of (columns_of schema table) row))) refusal.KeyTaken ∷
    barred schema standing.side table (not here.is_master) ∷
    own_key_step schema here table row ∷
    row_steps schema standing.tables table row

abbrev pub insert_steps : Schema → Here → BlockState → ℕ → List Literal → List (Option Refusal)
insert_steps schema here standing table values =
    refused (not (literals_fit schema (written_columns (columns_of schema table)) values)) refusal.RowShape ∷
    new_row_steps schema here standing table (insert_made schema here standing.stamps table values).row

-- a row that an update sets, and the one that it was
abbrev pub changed_row_steps : Schema → Here → BlockState → ℕ → List Set → Cells → List (Option Refusal)
changed_row_steps schema here standing table sets before =
    barred schema standing.side table false ∷
    rule_step schema table before (row_with sets (columns_of schema table) before) ∷
    row_steps schema standing.tables table (update_made schema here standing.stamps table sets before).row

abbrev pub update_steps : Schema → Here → BlockState → ℕ → List Literal → List Set → List (Option Refusal)
update_steps schema here standing table key sets =
    refused (not (names_columns (columns_of schema table) sets)) refusal.UnknownName ∷
    refused (not (key_literals_fit schema (columns_of schema table) key && sets_fit (columns_of schema table) sets)) refusal.RowShape ∷
    refused (sets_filled (columns_of schema table) sets) refusal.FilledBySite ∷
    there (row_at schema standing.tables table (values_of key)) (changed_row_steps schema here standing table sets)

abbrev pub delete_steps : Schema → BlockState → ℕ → List Literal → List (Option Refusal)
delete_steps schema standing table key =
    refused (not (key_literals_fit schema (columns_of schema table) key)) refusal.RowShape ∷
    there (row_at schema standing.tables table (values_of key)) (λ row. barred schema standing.side table true ∷ [])

-- the steps that can refuse a statement on a table, in their order
abbrev pub steps_in : Schema → Here → BlockState → ℕ → Statement → List (Option Refusal)
steps_in schema here standing table (Insert name values) = insert_steps schema here standing table values
steps_in schema here standing table (Update name key sets) = update_steps schema here standing table key sets
steps_in schema here standing table (Delete name key) = delete_steps schema standing table key

-- why a statement is refused, if it is: its table is not known or not held here, or the first of its steps
abbrev pub statement_refusal : Schema → Here → BlockState → Statement → Option Refusal
statement_refusal schema here standing statement = first_refusal (known (held_table schema here statement) (λ table. steps_in schema here standing table statement))
