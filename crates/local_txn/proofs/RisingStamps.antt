-- The stamps of a block rise, statement by statement.
use Rattle.std.proofs.Common.{◌≡◌, ℕ, ◌+◌, ◌<◌, ◌≤◌, Bool, true, false, List, [], ◌∷◌, ◌++◌, length, refl, sym, ◌∙◌, subst, arith, Ok, Err}
use Rattle.std.specs.Prelude.{Option, Some, None, Result, cond, nat_le}
use Rattle.std.specs.Bool.{MatchBool}
use Rattle.rep_values.specs.declared.literal.Literal.{Literal}
use Rattle.rep_values.specs.declared.name.SiteName.{SiteName}
use Rattle.rep_values.specs.declared.name.TableName.{TableName}
use Rattle.rep_values.specs.declared.refusal.Refusal.{Refusal}
use Rattle.rep_values.specs.declared.refusal.Refusal.TheVariants as refusal
use Rattle.rep_values.specs.declared.refusal.Limit.TheVariants as limit
use Rattle.rep_values.specs.RefusalSteps.{first_refusal}
use Rattle.rep_schema.specs.declared.schema.Schema.{Schema}
use Rattle.rep_schema.specs.declared.schema.Column.{Column}
use Rattle.rep_schema.specs.declared.change.Change.{Change}
use Rattle.rep_schema.specs.Shape.{HasShape}
use Rattle.rep_schema.specs.Tables.{Cells, Rows, columns_of, key_of, rows_of, IsTable, AreTables}
use Rattle.rep_schema.specs.Groups.{are_same}
use Rattle.rep_schema.specs.Changes.{after_change_in}
use Rattle.rep_schema.specs.Named.{is_table, table_place}
use Rattle.rep_schema.specs.Putting.{is_unchanged, changes_between, after_changes}
use Rattle.rep_schema.proofs.TableSteps.{IsTable-put, IsTable-take, AreTables-set}
use Rattle.rep_schema.proofs.RowFit.{length-fits}
use Rattle.rep_schema.proofs.ValuesAt.{are_same-Decides}
use Rattle.rep_calls.specs.declared.statement.Statement.{Statement}
use Rattle.rep_calls.specs.declared.statement.Statement.TheVariants.{Insert, Update, Delete}
use Rattle.rep_calls.specs.declared.statement.Set.{Set}
use Rattle.txn_effects.specs.declared.local.Here.{Here}
use Rattle.txn_effects.specs.declared.local.Stamps.{Stamps}
use Rattle.txn_effects.specs.declared.local.LocalStop.{LocalStop}
use Rattle.txn_effects.specs.Held.{statement_table, held_table}
use Rattle.txn_effects.specs.Literals.{values_of}
use Rattle.txn_effects.specs.Sets.{sets_filled, row_with}
use Rattle.txn_effects.specs.declared.row_made.RowMade.{RowMade}
use Rattle.txn_effects.specs.Filled.{Filling, everywhere, is_modified, bound_from, has_stamp_from, next_stamp, row_written}
use Rattle.txn_effects.specs.Statements.{BlockState, row_at, insert_made, update_made, outcome_in, outcome_changes, steps_in, statement_refusal, statement_changes, block_state_after}
use Rattle.txn_effects.specs.Locals.{BlockEffect, unless_refused, block_effect_behind, statements_effect, block_beginning, local_effect, most_statements, stop_at}
use Rattle.local_txn.specs.Laws.{gives_stamp, StampsRise, GivesStamps}
use Rattle.local_txn.proofs.FilledRows.{has_stamp_from-same, bound_from-same}
use Rattle.txn_effects.proofs.KindRows.{length-are_of, are_of-row_written}
use Rattle.local_txn.proofs.ModifiedRows.{filled_at, is_modified-made, is_modified-none, length-row_with}
use Rattle.txn_effects.proofs.NewRows.{RowFits-accepted, IsUniqueRow-accepted}
use Rattle.txn_effects.proofs.StatementRows.{IsNew, insert_passes, update_passes, before_fits, update_new}
use Rattle.txn_effects.proofs.StatementEffects.{place-held, refusal-held, changes-held, standing-held}
use Rattle.txn_effects.proofs.StatementsApplied.{place_within}

-- stamps that rise, and then go on rising
pub StampsRise-append : (schema : Schema) (site : SiteName) (low mid high : ℕ) (changes others : List Change) → StampsRise schema site low mid changes → StampsRise schema site mid high others → StampsRise schema site low high (changes ++ others)
StampsRise-append schema site low mid high [] others rise later = subst (λ n. StampsRise schema site n high others) (sym rise) later
StampsRise-append schema site low mid high (change ∷ changes) others rise later =
    (rise.0, rise.1, go (gives_stamp schema change) rise.2 (λ n rest. StampsRise-append schema site n mid high changes others rest later))
  where
    go : (b : Bool) → MatchBool b ((low < rise.0) × StampsRise schema site rise.0 mid changes) (StampsRise schema site low mid changes)
        → ((n : ℕ) → StampsRise schema site n mid changes → StampsRise schema site n high (changes ++ others))
        → MatchBool b ((low < rise.0) × StampsRise schema site rise.0 high (changes ++ others)) (StampsRise schema site low high (changes ++ others))
    go true here rest = (here.0, rest rise.0 here.1)
    go false here rest = rest low here

has_stamp_from-never : (n : ℕ) (columns : List Column) → has_stamp_from (λ k. false) n columns ≡ false
has_stamp_from-never n [] = refl
has_stamp_from-never n (c ∷ cs) = has_stamp_from-never (n + 1) cs

-- the last stamp becomes a stamp where one is given
last_stamp : (b : Bool) (low stamp : ℕ) → low < stamp → MatchBool b ((low < stamp) × (stamp ≡ cond b stamp low)) (low ≡ cond b stamp low)
last_stamp true low stamp above = (above, refl)
last_stamp false low stamp above = refl

pub above_last : (stamps : Stamps) (bound : ℕ) → stamps.last < next_stamp stamps bound
above_last stamps bound = omega arith

pub least_bound : (stamps : Stamps) (bound : ℕ) → bound ≤ next_stamp stamps bound
least_bound stamps bound = omega arith

module _ (schema : Schema) (here : Here) (shape : HasShape schema) (standing : BlockState) (table : ℕ) (is_table : IsTable schema table (rows_of standing.tables table)) where
  abbrev columns : List Column
  columns = columns_of schema table

  abbrev low : ℕ
  low = standing.stamps.last

  insert_rises : (name : TableName) (values : List Literal) → first_refusal (steps_in schema here standing table (Insert name values)) ≡ None
      → StampsRise schema here.site low (outcome_in schema here standing table (Insert name values)).last (outcome_changes table (outcome_in schema here standing table (Insert name values)))
  insert_rises name values none =
      let passes = insert_passes schema here standing table values none in
      let stamp = next_stamp standing.stamps 0 in
      let written = row_written columns (values_of values) in
      let long = length-are_of columns written (are_of-row_written schema columns values passes.shape) in
      rw passes.free (
        stamp,
        (λ place column there filled. filled_at (record { stamp = stamp; site = here.site }) everywhere columns written place column long there refl filled),
        last_stamp (has_stamp_from everywhere 0 columns) low stamp (above_last standing.stamps 0),
      )

  module _ (sets : List Set) (before : Cells) (long : length (columns_of schema table) ≡ length before) (plain : sets_filled (columns_of schema table) sets ≡ false) where
    abbrev after : Cells
    after = row_with sets columns before

    abbrev modified : ℕ → Bool
    modified = is_modified schema table before after

    abbrev stamp : ℕ
    stamp = next_stamp standing.stamps (bound_from modified 0 columns before)

    abbrev filling : Filling
    filling = record { stamp = stamp; site = here.site }

    abbrev made : RowMade
    made = update_made schema here standing.stamps table sets before

    same_marks : (k : ℕ) → is_modified schema table before made.row k ≡ modified k
    same_marks k = is_modified-made schema table shape sets before long plain filling k

    row_rises : (b : Bool) → are_same before made.row ≡ b → StampsRise schema here.site low made.last (cond b [] (record { table = table; before = Some before; after = Some made.row } ∷ []))
    row_rises true same =
        let is : before ≡ made.row = (are_same-Decides before made.row).0 same in
        let never : (k : ℕ) → modified k ≡ false = λ k. sym (same_marks k) ∙ subst (λ (r : Cells). is_modified schema table before r k ≡ false) is (is_modified-none schema table before k) in
        let none : has_stamp_from modified 0 columns ≡ false = has_stamp_from-same modified (λ k. false) 0 columns (λ k below. never (0 + k)) ∙ has_stamp_from-never 0 columns in
        rw none refl
    row_rises false other =
        let bound = bound_from-same (is_modified schema table before made.row) modified 0 columns before (λ k below. same_marks (0 + k)) in
        let gives : has_stamp_from (is_modified schema table before made.row) 0 columns ≡ has_stamp_from modified 0 columns =
        has_stamp_from-same (is_modified schema table before made.row) modified 0 columns (λ k below. same_marks (0 + k)) in (
          stamp,
          (
            λ place chosen column there filled. filled_at filling modified columns after place column (long ∙ sym (length-row_with sets columns before long)) there (sym (same_marks place) ∙ chosen) filled,
            rw bound (least_bound standing.stamps (bound_from modified 0 columns before)),
          ),
          rw gives (last_stamp (has_stamp_from modified 0 columns) low stamp (above_last standing.stamps (bound_from modified 0 columns before))),
        )

  delete_rises : (row : Option Cells) → StampsRise schema here.site low low (outcome_changes table (record { before = row; after = None; last = low }))
  delete_rises None = refl
  delete_rises (Some row) = (0, tt, rw (has_stamp_from-never 0 columns) refl)

  -- the stamps of one statement that isn't refused
  pub statement_rises : (statement : Statement) → first_refusal (steps_in schema here standing table statement) ≡ None
      → StampsRise schema here.site low (outcome_in schema here standing table statement).last (outcome_changes table (outcome_in schema here standing table statement))
  statement_rises (Insert name values) none = insert_rises name values none
  statement_rises (Update name key sets) none =
      let passes = update_passes schema here standing table key sets none in
      let long = length-fits columns passes.before (before_fits schema here standing table is_table key sets passes) in
      rw passes.there (row_rises sets passes.before long passes.unfilled (are_same passes.before (update_made schema here standing.stamps table sets passes.before).row) refl)
  statement_rises (Delete name key) none = delete_rises (row_at schema standing.tables table (values_of key))

  -- the rows of its table stay a table
  put_back : (row : Cells) → IsNew schema standing.tables table row → IsTable schema table (after_change_in columns None (Some row) (rows_of standing.tables table))
  put_back row new = IsTable-put schema table row (rows_of standing.tables table) (RowFits-accepted schema standing.tables table row new.kindly new.accepted)
      (IsUniqueRow-accepted schema standing.tables table row is_table new.kindly new.accepted) is_table

  module _ (are : AreTables schema standing.tables) where
    keeps : (before after : Option Cells) → IsTable schema table (after_change_in columns before after (rows_of standing.tables table)) → AreTables schema (after_changes schema (changes_between table before after) standing.tables)
    keeps before after is = go (is_unchanged before after)
      where
        go : (b : Bool) → AreTables schema (after_changes schema (cond b [] (record { table = table; before = before; after = after } ∷ [])) standing.tables)
        go true = are
        go false = AreTables-set schema standing.tables table (after_change_in columns before after (rows_of standing.tables table)) are is

    pub statement_keeps : (statement : Statement) → first_refusal (steps_in schema here standing table statement) ≡ None
        → AreTables schema (after_changes schema (outcome_changes table (outcome_in schema here standing table statement)) standing.tables)
    statement_keeps (Insert name values) none =
        let passes = insert_passes schema here standing table values none in
        let row = (insert_made schema here standing.stamps table values).row in
        rw passes.free (keeps None (Some row) (put_back row passes.new))
    statement_keeps (Update name key sets) none =
        let passes = update_passes schema here standing table key sets none in
        let row = (update_made schema here standing.stamps table sets passes.before).row in
        rw passes.there (keeps (Some passes.before) (Some row) (put_back row (update_new schema here standing table is_table key sets passes)))
    statement_keeps (Delete name key) none = go (row_at schema standing.tables table (values_of key))
      where
        go : (row : Option Cells) → AreTables schema (after_changes schema (changes_between table row None) standing.tables)
        go None = are
        go (Some row) = keeps (Some row) None (IsTable-take schema table (key_of columns row) (rows_of standing.tables table) is_table)

module _ (schema : Schema) (here : Here) (shape : HasShape schema) where
  -- what a block does from where it stands
  record Rises (standing : BlockState) (effect : BlockEffect) : Type 0 where
    rise : StampsRise schema here.site standing.stamps.last effect.stamps.last effect.changes
    clock : effect.stamps.clock ≡ standing.stamps.clock

  -- one statement that isn't refused: its stamps rise, the clock stands still, and its tables are tables
  record OneRises (standing : BlockState) (statement : Statement) : Type 0 where
    rise : StampsRise schema here.site standing.stamps.last (block_state_after schema here standing statement).stamps.last (statement_changes schema here standing statement)
    clock : (block_state_after schema here standing statement).stamps.clock ≡ standing.stamps.clock
    are : AreTables schema (block_state_after schema here standing statement).tables

  one_rises : (standing : BlockState) (statement : Statement) → AreTables schema standing.tables → statement_refusal schema here standing statement ≡ None → OneRises standing statement
  one_rises standing statement are none = go (held_table schema here statement) refl
    where
      go : (place : Option ℕ) → held_table schema here statement ≡ place → OneRises standing statement
      go None gone = let refuses = rw gone at none in cc
      go (Some table) held =
          let below : table < length schema.tables = place_within (is_table (statement_table statement)) schema.tables table (place-held here (table_place schema (statement_table statement)) table held) in
          let steps = sym (refusal-held schema here standing statement table held) ∙ none in
          let is_table = are.each table below in
          let after = standing-held schema here standing statement table held in
          let changes = changes-held schema here standing statement table held in
          record {
            rise = rw (after, changes) (statement_rises schema here shape standing table is_table statement steps);
            clock = rw after refl;
            are = rw after (statement_keeps schema here shape standing table is_table are statement steps);
          }

  statements_rise : (statements : List Statement) (number : ℕ) (standing : BlockState) (effect : BlockEffect) → AreTables schema standing.tables
      → statements_effect schema here number statements standing ≡ Ok effect → Rises standing effect
  statements_rise [] number standing effect are gives =
      let is : record { changes = []; stamps = standing.stamps } ≡ effect = cc in
      subst (Rises standing) is (record { rise = refl; clock = refl })
  statements_rise (statement ∷ statements) number standing effect are gives =
      go (statement_refusal schema here standing statement) refl (statements_effect schema here (number + 1) statements (block_state_after schema here standing statement)) refl gives
      (λ later are_later gives_later. statements_rise statements (number + 1) (block_state_after schema here standing statement) later are_later gives_later)
    where
      go : (refusal : Option Refusal) → statement_refusal schema here standing statement ≡ refusal → (rest : Result BlockEffect LocalStop) → statements_effect schema here (number + 1) statements (block_state_after schema here standing statement) ≡ rest
          → unless_refused refusal number (block_effect_behind (statement_changes schema here standing statement) rest) ≡ Ok effect
          → ((later : BlockEffect) → AreTables schema (block_state_after schema here standing statement).tables → statements_effect schema here (number + 1) statements (block_state_after schema here standing statement) ≡ Ok later
          → Rises (block_state_after schema here standing statement) later)
          → Rises standing effect
      go (Some why) refuses rest is e rises = cc
      go None passes (Err stop) is e rises = cc
      go None passes (Ok later) is e rises =
          let one = one_rises standing statement are passes in
          let then = rises later one.are is in
          let same : record { changes = statement_changes schema here standing statement ++ later.changes; stamps = later.stamps } ≡ effect = cc in
          subst (Rises standing) same (record {
            rise = StampsRise-append schema here.site standing.stamps.last (block_state_after schema here standing statement).stamps.last later.stamps.last (statement_changes schema here standing statement) later.changes one.rise then.rise;
            clock = then.clock ∙ one.clock;
          })

  -- the stamps of a block rise
  pub block_rises : (stamps : Stamps) (statements : List Statement) (tables : List Rows) (effect : BlockEffect) → AreTables schema tables → local_effect schema here stamps statements tables ≡ Ok effect
      → GivesStamps schema here.site stamps effect
  block_rises stamps statements tables effect are gives = go (nat_le (length statements) most_statements) gives
    where
      go : (b : Bool) → cond b (statements_effect schema here 1 statements (block_beginning stamps tables)) (stop_at (most_statements + 1) (refusal.LimitReached limit.Statements)) ≡ Ok effect → GivesStamps schema here.site stamps effect
      go true e = let rises = statements_rise statements 1 (block_beginning stamps tables) effect are e in record { rise = rises.rise; clock = rises.clock }
      go false e = cc
