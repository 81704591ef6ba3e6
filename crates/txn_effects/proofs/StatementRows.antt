-- The rows that statements make: of their columns' kinds, and accepted where nothing refuses.
use Rattle.std.proofs.Common.{◌≡◌, ℕ, ◌<◌, Bool, true, false, List, length, refl, ◌+◌, ◌∙◌, zero-add}
use Rattle.std.specs.Prelude.{Option, Some, None, ◌&&◌, not, is_some}
use Rattle.std.specs.List.{list_all}
use Rattle.std.proofs.lemmas.Bool.{and_parts, and_left}
use Rattle.rep_values.specs.declared.literal.Literal.{Literal}
use Rattle.rep_values.specs.declared.refusal.Refusal.TheVariants as refusal
use Rattle.rep_values.specs.RefusalSteps.{refused, first_refusal}
use Rattle.rep_values.proofs.RefusalSteps.{or_then-None, refused-None, refused_not-None}
use Rattle.rep_schema.specs.declared.schema.Schema.{Schema}
use Rattle.rep_schema.specs.Tables.{Cells, Rows, columns_of, key_of, rows_of, RowFits, IsTable}
use Rattle.rep_schema.proofs.FoundRows.{found_row}
use Rattle.rep_calls.specs.declared.statement.Set.{Set}
use Rattle.txn_effects.specs.Calls.{KeysStandAlone}
use Rattle.txn_effects.specs.declared.local.Here.{Here}
use Rattle.txn_effects.specs.Literals.{literals_fit, key_literals_fit, values_of}
use Rattle.txn_effects.specs.Sets.{names_columns, names_one_twice, sets_fit, sets_filled, row_with}
use Rattle.txn_effects.specs.Filled.{Filling, filled_from, everywhere, is_modified, bound_from, next_stamp, written_columns, row_written}
use Rattle.txn_effects.specs.Convergent.{barred, own_key_step, rule_step}
use Rattle.txn_effects.specs.Statements.{BlockState, row_at, insert_made, update_made, row_steps, there, new_row_steps, insert_steps, changed_row_steps, update_steps}
use Rattle.txn_effects.specs.NewRows.{FitsButForRange}
use Rattle.txn_effects.proofs.KindRows.{are_of, length-are_of, RowFits-are_of, are_of-RowFits, are_of-row_written, are_of-filled_from, are_of-row_with, key_of-row_with, key_of-filled_from, takes}
use Rattle.txn_effects.proofs.ModifiedColumns.{is_modified-key}
use Rattle.txn_effects.proofs.NewRows.{IsAccepted, accepted_row}

-- a row of its columns' kinds
pub FitsButForRange-are_of : (schema : Schema) (table : ℕ) (row : Cells) → are_of (columns_of schema table) row ≡ true → FitsButForRange schema table row
FitsButForRange-are_of schema table row are = record { long = length-are_of (columns_of schema table) row are; fits = λ range. RowFits-are_of (columns_of schema table) row are range }

-- a row that literals write, filled in with anything
pub FitsButForRange-written : (schema : Schema) (table : ℕ) (values : List Literal) (filling : Filling) (chosen : ℕ → Bool) → literals_fit schema (written_columns (columns_of schema table)) values ≡ true
    → FitsButForRange schema table (filled_from filling chosen 0 (columns_of schema table) (row_written (columns_of schema table) (values_of values)))
FitsButForRange-written schema table values filling chosen fit =
    FitsButForRange-are_of schema table (filled_from filling chosen 0 (columns_of schema table) (row_written (columns_of schema table) (values_of values)))
    (are_of-filled_from filling chosen 0 (columns_of schema table) (row_written (columns_of schema table) (values_of values)) (are_of-row_written schema (columns_of schema table) values fit))

-- a row that sets change, filled in with anything
pub FitsButForRange-set : (schema : Schema) (table : ℕ) (sets : List Set) (before : Cells) (filling : Filling) (chosen : ℕ → Bool) → sets_fit (columns_of schema table) sets ≡ true → RowFits (columns_of schema table) before
    → FitsButForRange schema table (filled_from filling chosen 0 (columns_of schema table) (row_with sets (columns_of schema table) before))
FitsButForRange-set schema table sets before filling chosen fit fits =
    FitsButForRange-are_of schema table (filled_from filling chosen 0 (columns_of schema table) (row_with sets (columns_of schema table) before))
    (are_of-filled_from filling chosen 0 (columns_of schema table) (row_with sets (columns_of schema table) before)
    (are_of-row_with sets (columns_of schema table) before (and_parts (list_all (takes sets) (columns_of schema table)) (not (names_one_twice sets)) fit).0 (are_of-RowFits (columns_of schema table) before fits).0))

-- a new row that may be put into a table
pub record IsNew (schema : Schema) (tables : List Rows) (table : ℕ) (row : Cells) : Type 0 where
  pub kindly : FitsButForRange schema table row
  pub accepted : IsAccepted schema tables table row

module _ (schema : Schema) (here : Here) (standing : BlockState) (table : ℕ) where
  -- what an insert fills in
  abbrev pub insert_filling : Filling
  insert_filling = record { stamp = next_stamp standing.stamps 0; site = here.site }

  -- which columns an update modifies, and what it fills in there
  abbrev pub modified_by : List Set → Cells → ℕ → Bool
  modified_by sets before = is_modified schema table before (row_with sets (columns_of schema table) before)

  abbrev pub update_filling : List Set → Cells → Filling
  update_filling sets before = record { stamp = next_stamp standing.stamps (bound_from (modified_by sets before) 0 (columns_of schema table) before); site = here.site }

  -- an insert that isn't refused
  pub record InsertPasses (values : List Literal) : Type 0 where
    pub shape : literals_fit schema (written_columns (columns_of schema table)) values ≡ true
    pub free : row_at schema standing.tables table (key_of (columns_of schema table) (insert_made schema here standing.stamps table values).row) ≡ None
    pub new : IsNew schema standing.tables table (insert_made schema here standing.stamps table values).row

  pub insert_passes : (values : List Literal) → first_refusal (insert_steps schema here standing table values) ≡ None → InsertPasses values
  insert_passes values none =
      let row = (insert_made schema here standing.stamps table values).row in
      let first = or_then-None (refused (not (literals_fit schema (written_columns (columns_of schema table)) values)) refusal.RowShape) (first_refusal (new_row_steps schema here standing table row)) none in
      let taken = or_then-None (refused (is_some (row_at schema standing.tables table (key_of (columns_of schema table) row))) refusal.KeyTaken) _ first.1 in
      let bars = or_then-None (barred schema standing.side table (not here.is_master)) _ taken.1 in
      let own = or_then-None (own_key_step schema here table row) (first_refusal (row_steps schema standing.tables table row)) bars.1 in
      let shape = refused_not-None (literals_fit schema (written_columns (columns_of schema table)) values) refusal.RowShape first.0 in
      record {
        shape = shape;
        free = gone (row_at schema standing.tables table (key_of (columns_of schema table) row)) (refused-None _ refusal.KeyTaken taken.0);
        new = record { kindly = FitsButForRange-written schema table values insert_filling everywhere shape; accepted = accepted_row schema standing.tables table row own.1 };
      }
    where
      gone : (o : Option Cells) → is_some o ≡ false → o ≡ None
      gone None e = refl
      gone (Some row) e = cc

  -- an update that isn't refused
  pub record UpdatePasses (key : List Literal) (sets : List Set) : Type 0 where
    pub known : names_columns (columns_of schema table) sets ≡ true
    pub fits : (key_literals_fit schema (columns_of schema table) key && sets_fit (columns_of schema table) sets) ≡ true
    pub unfilled : sets_filled (columns_of schema table) sets ≡ false
    pub before : Cells
    pub there : row_at schema standing.tables table (values_of key) ≡ Some before
    pub accepted : IsAccepted schema standing.tables table (update_made schema here standing.stamps table sets before).row

  pub update_passes : (key : List Literal) (sets : List Set) → first_refusal (update_steps schema here standing table key sets) ≡ None → UpdatePasses key sets
  update_passes key sets none =
      let columns = columns_of schema table in
      let names = or_then-None (refused (not (names_columns columns sets)) refusal.UnknownName) _ none in
      let shape = or_then-None (refused (not (key_literals_fit schema columns key && sets_fit columns sets)) refusal.RowShape) _ names.1 in
      let written = or_then-None (refused (sets_filled columns sets) refusal.FilledBySite) (first_refusal (there (row_at schema standing.tables table (values_of key)) (changed_row_steps schema here standing table sets))) shape.1 in
      go (refused_not-None (names_columns columns sets) refusal.UnknownName names.0) (refused_not-None (key_literals_fit schema columns key && sets_fit columns sets) refusal.RowShape shape.0)
      (refused-None (sets_filled columns sets) refusal.FilledBySite written.0) (row_at schema standing.tables table (values_of key)) refl written.1
    where
      go : names_columns (columns_of schema table) sets ≡ true → (key_literals_fit schema (columns_of schema table) key && sets_fit (columns_of schema table) sets) ≡ true → sets_filled (columns_of schema table) sets ≡ false
          → (o : Option Cells) → row_at schema standing.tables table (values_of key) ≡ o → first_refusal (there o (changed_row_steps schema here standing table sets)) ≡ None → UpdatePasses key sets
      go known fits unfilled None gone e = cc
      go known fits unfilled (Some before) found e =
          let row = (update_made schema here standing.stamps table sets before).row in
          let bars = or_then-None (barred schema standing.side table false) _ e in
          let rule = or_then-None (rule_step schema table before (row_with sets (columns_of schema table) before)) (first_refusal (row_steps schema standing.tables table row)) bars.1 in
          record { known = known; fits = fits; unfilled = unfilled; before = before; there = found; accepted = accepted_row schema standing.tables table row rule.1 }

  module _ (is_table : IsTable schema table (rows_of standing.tables table)) (key : List Literal) (sets : List Set) (passes : UpdatePasses key sets) where
    -- the row that is there fits
    pub before_fits : RowFits (columns_of schema table) passes.before
    before_fits = found_row (columns_of schema table) (values_of key) passes.before (rows_of standing.tables table) passes.there (RowFits (columns_of schema table)) is_table.fit

    pub sets_in_order : sets_fit (columns_of schema table) sets ≡ true
    sets_in_order = (and_parts (key_literals_fit schema (columns_of schema table) key) (sets_fit (columns_of schema table) sets) passes.fits).1

    -- and the row that takes its place may be put
    pub update_new : IsNew schema standing.tables table (update_made schema here standing.stamps table sets passes.before).row
    update_new = record { kindly = FitsButForRange-set schema table sets passes.before (update_filling sets passes.before) (modified_by sets passes.before) sets_in_order before_fits; accepted = passes.accepted }

-- a row that sets change has the key that it had, whatever is filled in in its modified groups
pub key_of-set : (schema : Schema) (table : ℕ) → KeysStandAlone schema → table < length schema.tables → (sets : List Set) (before after other : Cells) (filling : Filling) → sets_fit (columns_of schema table) sets ≡ true
    → key_of (columns_of schema table) (filled_from filling (is_modified schema table after other) 0 (columns_of schema table) (row_with sets (columns_of schema table) before)) ≡ key_of (columns_of schema table) before
key_of-set schema table apart below sets before after other filling fit =
    let columns = columns_of schema table in
    key_of-filled_from filling (is_modified schema table after other) 0 columns (row_with sets columns before)
    (λ k c at is_key. and_left (is_modified schema table after other (0 + k)) _ (rw zero-add (is_modified-key schema table apart below after other k c at is_key)))
    ∙ key_of-row_with sets columns before (and_parts (list_all (takes sets) columns) (not (names_one_twice sets)) fit).0
