-- The calls of changes that lead from tables to others, applied, make these changes.
use Rattle.std.proofs.Common.{◌≡◌, ◌≢◌, ℕ, ◌+◌, ◌<◌, true, false, List, [], ◌∷◌, length, map, Ok, refl, ap, ◌∙◌}
use Rattle.std.specs.Prelude.{Option, Some, None, Result, IfSome}
use Rattle.std.specs.List.{AllByRecursion}
use Rattle.rep_values.specs.declared.name.SiteName.{SiteName}
use Rattle.rep_values.specs.declared.refusal.ApplyError.{ApplyError}
use Rattle.rep_schema.specs.declared.schema.Schema.{Schema}
use Rattle.rep_schema.specs.declared.change.Change.{Change}
use Rattle.rep_schema.specs.Shape.{HasShape}
use Rattle.rep_schema.specs.Tables.{Cells, Rows, columns_of, key_of, rows_of, RowFits, IsUniqueRow, AreTables}
use Rattle.rep_schema.specs.Groups.{are_same}
use Rattle.rep_schema.specs.Checks.{failed_check}
use Rattle.rep_schema.specs.Changes.{after_change, row_like, IsChange, LeadsTo}
use Rattle.rep_schema.proofs.TakingBack.{AreTables-made}
use Rattle.rep_schema.proofs.Leading.{ChangeFits-from_IsChange}
use Rattle.rep_schema.proofs.FoundRows.{found_row, key_of-found}
use Rattle.rep_schema.proofs.ValuesAt.{are_same-Decides}
use Rattle.rep_calls.specs.declared.call.Call.TheVariants.{Insert, Update, Delete}
use Rattle.conflict_detect.specs.Fits.{CallFits}
use Rattle.conflict_detect.proofs.CallFit.{CallFits-call_of}
use Rattle.conflict_detect.specs.ChangeCalls.{call_between, call_of, parts_between}
use Rattle.conflict_detect.specs.Laws.{AreOneRow}
use Rattle.unique_resolve.specs.Numbers.{Numbers}
use Rattle.unique_resolve.specs.Settling.{Settlement, settlement_of}
use Rattle.unique_resolve.proofs.FreeSettlements.{not_true, settlement_of-free}
use Rattle.txn_effects.specs.Parts.{result_then, settled_parts}
use Rattle.rep_schema.specs.Putting.{changes_between}
use Rattle.txn_effects.specs.Calls.{RowEffect, settled_effect, Effect, call_effect}
use Rattle.txn_effects.specs.Transactions.{effect_behind, calls_effect}
use Rattle.txn_effects.specs.Laws.{IsChecked}
use Rattle.txn_effects.proofs.TransactionEffects.{calls_effect-Ok}
use Rattle.txn_effects.proofs.OwnParts.{settled_parts-own}

module _ (schema : Schema) (tables : List Rows) (origin : SiteName) (numbers : Numbers) where
  module _ (table : ℕ) (below : table < length schema.tables) (are : AreTables schema tables) (shape : HasShape schema) where
    abbrev change_of : Option Cells → Option Cells → Change
    change_of before after = record { table = table; before = before; after = after }

    abbrev changed : Option Cells → Option Cells → Result Effect ApplyError
    changed before after = Ok (record { changes = change_of before after ∷ []; numbers = numbers })

    own_Insert : (row : Cells) → row_like (columns_of schema table) row (rows_of tables table) ≡ None → RowFits (columns_of schema table) row → IsUniqueRow schema table row (rows_of tables table)
        → failed_check schema table row ≡ None → call_effect schema tables numbers origin (Insert table row) ≡ changed None (Some row)
    own_Insert row gone fits unique checked = rw (settlement_of-free schema tables origin numbers table row below are fits unique true (rw gone refl), gone, checked) refl

    own_Delete : (row : Cells) → row_like (columns_of schema table) row (rows_of tables table) ≡ Some row → call_effect schema tables numbers origin (Delete table row) ≡ changed (Some row) None
    own_Delete row there =
        let same : are_same row row ≡ true = (are_same-Decides row row).1 refl in
        rw (there, same) refl

    own_Update : (a b : Cells) → row_like (columns_of schema table) a (rows_of tables table) ≡ Some a → row_like (columns_of schema table) b (rows_of tables table) ≡ Some a
        → RowFits (columns_of schema table) b → IsUniqueRow schema table b (rows_of tables table) → failed_check schema table b ≡ None → a ≢ b
        → CallFits schema (Update table (key_of (columns_of schema table) a) (parts_between schema table a b))
        → call_effect schema tables numbers origin (Update table (key_of (columns_of schema table) a) (parts_between schema table a b)) ≡ changed (Some a) (Some b)
    own_Update a b there was fits unique checked differ call_fits =
        let one : AreOneRow schema table a b = record {
          first = found_row (columns_of schema table) (key_of (columns_of schema table) a) a (rows_of tables table) there (RowFits (columns_of schema table)) (are.each table below).fit;
          second = fits;
          same_key = key_of-found (columns_of schema table) (key_of (columns_of schema table) b) a (rows_of tables table) was;
        } in
        let gives : settled_parts schema table (parts_between schema table a b) a ≡ Ok b = settled_parts-own schema shape table a b (key_of (columns_of schema table) a) one call_fits.content in
        let other : are_same a b ≡ false = not_true (are_same a b) (λ same. differ ((are_same-Decides a b).0 same)) in
        let put : result_then {B = Effect} (settled_effect schema table (settlement_of schema tables numbers origin table false b) (Some a))
        (λ (effect : RowEffect). Ok (record { changes = changes_between table (Some a) effect.after; numbers = effect.numbers })) ≡ changed (Some a) (Some b) =
        ap (λ (x : Settlement). result_then {B = Effect} (settled_effect schema table x (Some a)) (λ (effect : RowEffect). Ok (record { changes = changes_between table (Some a) effect.after; numbers = effect.numbers })))
        (settlement_of-free schema tables origin numbers table b below are fits unique false refl) ∙ rw (checked, other) refl in
        rw (there, gives) put

  -- the call of a change makes the change
  call_effect-own : (change : Change) → AreTables schema tables → HasShape schema → IsChange schema change tables → change.before ≢ change.after → IsChecked schema change
      → call_effect schema tables numbers origin (call_of schema change) ≡ Ok (record { changes = change ∷ []; numbers = numbers })
  call_effect-own change are shape is differ checked = go change.before change.after is.before is.after is.fits is.unique checked differ
      (CallFits-call_of schema change shape (ChangeFits-from_IsChange schema change tables are is differ))
    where
      go : (before after : Option Cells) → IfSome before (λ row. row_like (columns_of schema change.table) row (rows_of tables change.table) ≡ Some row)
          → IfSome after (λ row. row_like (columns_of schema change.table) row (rows_of tables change.table) ≡ before)
          → IfSome after (λ row. RowFits (columns_of schema change.table) row) → IfSome after (λ row. IsUniqueRow schema change.table row (rows_of tables change.table))
          → IfSome after (λ row. failed_check schema change.table row ≡ None) → before ≢ after
          → CallFits schema (call_between schema change.table before after)
          → call_effect schema tables numbers origin (call_between schema change.table before after) ≡ changed change.table is.table are shape before after
      go None None there was fits unique checked differ call_fits = absurd (differ refl)
      go None (Some row) there was fits unique checked differ call_fits = own_Insert change.table is.table are shape row was fits unique checked
      go (Some row) None there was fits unique checked differ call_fits = own_Delete change.table is.table are shape row there
      go (Some a) (Some b) there was fits unique checked differ call_fits = own_Update change.table is.table are shape a b there was fits unique checked (λ same. differ (ap Some same)) call_fits

-- and those of changes that lead from tables to others make them all
pub calls_effect-own : (schema : Schema) (origin : SiteName) (numbers : Numbers) (number : ℕ) (changes : List Change) (tables later : List Rows) → HasShape schema → AreTables schema tables
    → LeadsTo schema changes tables later → AllByRecursion (λ change. change.before ≢ change.after) changes → AllByRecursion (IsChecked schema) changes
    → calls_effect schema origin number (map (call_of schema) changes) tables numbers ≡ Ok (record { changes = changes; numbers = numbers })
calls_effect-own schema origin numbers number [] tables later shape are lead differ checked = refl
calls_effect-own schema origin numbers number (change ∷ changes) tables later shape are lead differ checked =
    let one = call_effect-own schema tables origin numbers change are shape lead.0 differ.0 checked.0 in
    let rest = calls_effect-own schema origin numbers (number + 1) changes (after_change schema change tables) later shape (AreTables-made schema change tables are lead.0) lead.1 differ.1 checked.1 in
    calls_effect-Ok schema origin (call_of schema change) tables numbers number (map (call_of schema) changes) (record { changes = change ∷ []; numbers = numbers }) one
    ∙ ap (effect_behind (change ∷ [])) rest
