-- A statement that isn't refused changes its tables soundly.
use Rattle.std.proofs.Common.{◌≡◌, ℕ, Bool, true, false, List, refl, sym, ap, ◌∙◌}
use Rattle.std.specs.Prelude.{Option, Some, None, cond}
use Rattle.rep_values.specs.RefusalSteps.{first_refusal}
use Rattle.rep_schema.specs.declared.schema.Schema.{Schema}
use Rattle.rep_schema.specs.declared.change.Change.{Change}
use Rattle.rep_schema.specs.Changes.{IsChange}
use Rattle.rep_schema.specs.Tables.{Cells, Rows, columns_of, key_of, find_row, rows_of}
use Rattle.rep_schema.specs.Named.{table_place}
use Rattle.rep_schema.proofs.FoundRows.{key_of-found}
use Rattle.rep_schema.proofs.Leading.{IsChange-put, IsChange-take}
use Rattle.rep_calls.specs.declared.statement.Statement.{Statement}
use Rattle.rep_calls.specs.declared.statement.Statement.TheVariants.{Insert, Update, Delete}
use Rattle.unique_resolve.specs.Numbers.{first_numbers}
use Rattle.unique_resolve.proofs.Settlements.{AreCounters-first}
use Rattle.txn_effects.specs.Calls.{Effect, KeysStandAlone}
use Rattle.conflict_detect.specs.KeysNamed.{HasKeys}
use Rattle.txn_effects.specs.Laws.{IsApplied, IsChecked}
use Rattle.txn_effects.proofs.TransactionEffects.{IsApplied-changes_between}
use Rattle.txn_effects.specs.declared.local.Here.{Here}
use Rattle.txn_effects.specs.Held.{statement_table, held_of, holds, held_table}
use Rattle.txn_effects.specs.Literals.{values_of}
use Rattle.txn_effects.specs.Sets.{row_with}
use Rattle.txn_effects.specs.Statements.{BlockState, StatementOutcome, row_at, insert_made, update_made, outcome_in, outcome_changes, steps_in, block_state_with, statement_refusal, statement_changes, block_state_after}
use Rattle.txn_effects.specs.NewRows.{CanRun}
use Rattle.txn_effects.proofs.NewRows.{RowFits-accepted, IsUniqueRow-accepted}
use Rattle.txn_effects.proofs.StatementRows.{IsNew, update_filling, insert_passes, update_passes, sets_in_order, update_new, key_of-set}

-- changes with the first counters, which no statement moves
abbrev pub effect_with : Schema → List Change → Effect
effect_with schema changes = record { changes = changes; numbers = first_numbers schema }

-- a change that the tables allow, to a row that meets the checks
pub record IsAllowed (schema : Schema) (table : ℕ) (tables : List Rows) (before after : Option Cells) : Type 0 where
  pub change : IsChange schema (record { table = table; before = before; after = after }) tables
  pub checked : IsChecked schema (record { table = table; before = before; after = after })

module _ (schema : Schema) (here : Here) (standing : BlockState) (table : ℕ) (able : CanRun schema standing.tables table) where
  -- a new row takes the place of the one with its key
  IsAllowed-new : (row : Cells) (before : Option Cells) → IsNew schema standing.tables table row → before ≡ find_row (columns_of schema table) (key_of (columns_of schema table) row) (rows_of standing.tables table)
      → IsAllowed schema table standing.tables before (Some row)
  IsAllowed-new row before new was =
      let is_table = able.are.each table able.of_table in
      record {
        change = IsChange-put schema table standing.tables able.of_table able.keyed row before (RowFits-accepted schema standing.tables table row new.kindly new.accepted)
            (IsUniqueRow-accepted schema standing.tables table row is_table new.kindly new.accepted) was;
        checked = new.accepted.checked;
      }

  -- a statement that isn't refused changes its row as the tables allow
  pub IsAllowed-statement : KeysStandAlone schema → (statement : Statement) → first_refusal (steps_in schema here standing table statement) ≡ None
      → IsAllowed schema table standing.tables (outcome_in schema here standing table statement).before (outcome_in schema here standing table statement).after
  IsAllowed-statement apart (Insert name values) none =
      let passes = insert_passes schema here standing table values none in
      IsAllowed-new (insert_made schema here standing.stamps table values).row (row_at schema standing.tables table (key_of (columns_of schema table) (insert_made schema here standing.stamps table values).row)) passes.new refl
  IsAllowed-statement apart (Update name key sets) none =
      let passes = update_passes schema here standing table key sets none in
      let is_table = able.are.each table able.of_table in
      let columns = columns_of schema table in
      let row = (update_made schema here standing.stamps table sets passes.before).row in
      let new = update_new schema here standing table is_table key sets passes in
      let same_key = key_of-set schema table apart able.of_table sets passes.before passes.before (row_with sets columns passes.before) (update_filling schema here standing table sets passes.before) (sets_in_order schema here standing table is_table key sets passes) in
      let own : key_of columns passes.before ≡ values_of key = key_of-found columns (values_of key) passes.before (rows_of standing.tables table) passes.there in
      let was : Some passes.before ≡ find_row columns (key_of columns row) (rows_of standing.tables table) = sym (ap (λ k. find_row columns k (rows_of standing.tables table)) (same_key ∙ own) ∙ passes.there) in
      rw passes.there (IsAllowed-new row (Some passes.before) new was)
  IsAllowed-statement apart (Delete name key) none = record {
    change = IsChange-take schema table standing.tables able.of_table able.keyed (values_of key) (row_at schema standing.tables table (values_of key)) refl;
    checked = tt;
  }

  -- and leads by its change from the tables before it to those after it
  pub IsApplied-statement : HasKeys schema → KeysStandAlone schema → (statement : Statement) → first_refusal (steps_in schema here standing table statement) ≡ None
      → IsApplied schema standing.tables (effect_with schema (outcome_changes table (outcome_in schema here standing table statement)))
  IsApplied-statement keys apart statement none =
      let outcome : StatementOutcome = outcome_in schema here standing table statement in
      let allowed = IsAllowed-statement apart statement none in
      IsApplied-changes_between schema here.site able.shape keys apart table outcome.before outcome.after standing.tables (first_numbers schema) able.are (AreCounters-first schema) allowed.change (λ differ. allowed.checked)

-- a table that is held has its place
pub place-held : (here : Here) (place : Option ℕ) (table : ℕ) → held_of here place ≡ Some table → place ≡ Some table
place-held here None table held = cc
place-held here (Some n) table held = go (holds here n) held
  where
    go : (b : Bool) → cond b (Some n) None ≡ Some table → Some n ≡ Some table
    go true is = is
    go false is = cc

module _ (schema : Schema) (here : Here) (standing : BlockState) (statement : Statement) (table : ℕ) (held : held_table schema here statement ≡ Some table) where
  -- a statement's refusal and change are those on its table
  pub refusal-held : statement_refusal schema here standing statement ≡ first_refusal (steps_in schema here standing table statement)
  refusal-held = rw held refl

  place : table_place schema (statement_table statement) ≡ Some table
  place = place-held here (table_place schema (statement_table statement)) table held

  pub changes-held : statement_changes schema here standing statement ≡ outcome_changes table (outcome_in schema here standing table statement)
  changes-held = rw place refl

  pub standing-held : block_state_after schema here standing statement
      ≡ block_state_with schema table (outcome_changes table (outcome_in schema here standing table statement)) (outcome_in schema here standing table statement).last standing
  standing-held = rw place refl
