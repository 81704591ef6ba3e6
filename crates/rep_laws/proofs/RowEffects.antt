-- What one call leaves of the row that it names, and of the counters of each table.
use Rattle.std.proofs.Common.{◌≡◌, ◌≢◌, ℕ, List, [], get_or, Bool, true, false, cond, Some, None, Ok, Err, refl, sym, ap, ◌∙◌, subst}
use Rattle.std.specs.Prelude.{Option, IfSome, option_map}
use Rattle.std.specs.List.{AllByRecursion, list_any}
use Rattle.rep_values.specs.declared.name.SiteName.{SiteName}
use Rattle.rep_values.specs.declared.value.Value.{Value}
use Rattle.rep_values.specs.declared.refusal.ApplyError.TheVariants.{DeleteConflict}
use Rattle.rep_schema.specs.declared.schema.Schema.{Schema}
use Rattle.rep_schema.specs.Tables.{Cells, Rows, columns_of, constraints_of, key_of, find_row, rows_of, picked, RowFits, IsUniqueRow, AreTables}
use Rattle.rep_schema.specs.Shape.{HasShape}
use Rattle.rep_schema.specs.Groups.{are_same}
use Rattle.rep_schema.specs.Checks.{failed_check}
use Rattle.rep_schema.proofs.FoundRows.{found_row, key_of-found}
use Rattle.rep_calls.specs.declared.call.Call.{Call}
use Rattle.rep_calls.specs.declared.call.Call.TheVariants.{Insert, Update, Delete}
use Rattle.rep_calls.specs.declared.call.Part.{Part}
use Rattle.conflict_detect.specs.Fits.{table_of, CallFits}
use Rattle.unique_resolve.specs.declared.settled.Settled.{Settled}
use Rattle.unique_resolve.specs.declared.settled.Settled.TheVariants.{Fits, Dropped, Conflict}
use Rattle.unique_resolve.specs.Numbers.{Numbers, AreCounters}
use Rattle.unique_resolve.specs.Settling.{Settlement, settlement_of}
use Rattle.unique_resolve.proofs.Settlements.{key_of-settled}
use Rattle.txn_effects.specs.Parts.{settled_parts}
use Rattle.txn_effects.specs.Calls.{KeysStandAlone, row_named, RowEffect, effect_by, settled_effect, row_effect}
use Rattle.conflict_detect.specs.KeysNamed.{key_named}
use Rattle.txn_effects.proofs.Results.{result_then-Ok}
use Rattle.txn_effects.proofs.CallEffects.{checked_effect-Ok}
use Rattle.txn_effects.proofs.PartEffects.{RowFits-settled_parts, key_of-settled_parts}
use Rattle.dependency_index.specs.Tokens.{has_constraints, constrained_columns, has_constrained_column, touches_constraints}
use Rattle.rep_laws.proofs.ConstrainedValues.{picked-settled_parts}
use Rattle.rep_laws.proofs.SettledFree.{IsFree, settlement_of-free, counters-other, free-none, free-like}

-- the counters after a settlement that succeeds are the settlement's
numbers-settled_effect : (schema : Schema) (table : ℕ) (settlement : Settlement) (before : Option Cells) (effect : RowEffect) → settled_effect schema table settlement before ≡ Ok effect
    → effect.numbers ≡ settlement.numbers
numbers-settled_effect schema table settlement before effect gives = go settlement.settled gives
  where
    go : (settled : Settled) → effect_by schema table settled before settlement.numbers ≡ Ok effect → effect.numbers ≡ settlement.numbers
    go (Fits one) e = ap (λ (x : RowEffect). x.numbers) (sym (checked_effect-Ok (failed_check schema table one) one settlement.numbers effect e).1)
    go Dropped e = let is : record { after = before; numbers = settlement.numbers } ≡ effect = cc in ap (λ (x : RowEffect). x.numbers) (sym is)
    go (Conflict name) e = cc

-- what a row has in the columns of secondary constraints, where the table has constraints
abbrev pub constrained_in : Schema → ℕ → Option Cells → Option (List (Option Value))
constrained_in schema table row = cond (has_constraints schema table) (option_map (picked (constrained_columns schema table)) row) None

module _ (schema : Schema) (tables : List Rows) (numbers : Numbers) (origin : SiteName) where
  -- a call leaves the counters of other tables
  pub counters-row_effect_other : (call : Call) (before : Option Cells) (effect : RowEffect) (other : ℕ) → other ≢ table_of call → row_effect schema tables numbers origin call before ≡ Ok effect
      → get_or effect.numbers other [] ≡ get_or numbers other []
  counters-row_effect_other (Insert table row) before effect other apart gives =
      ap (λ ns. get_or ns other []) (numbers-settled_effect schema table (settlement_of schema tables numbers origin table true row) before effect gives)
      ∙ counters-other schema tables numbers origin table true row other apart
  counters-row_effect_other (Update table key parts) None effect other apart gives = cc
  counters-row_effect_other (Update table key parts) (Some found) effect other apart gives =
      let settled = result_then-Ok (settled_parts schema table parts found) (λ row. settled_effect schema table (settlement_of schema tables numbers origin table false row) (Some found)) effect gives in
      ap (λ ns. get_or ns other []) (numbers-settled_effect schema table (settlement_of schema tables numbers origin table false settled.0) (Some found) effect settled.2)
      ∙ counters-other schema tables numbers origin table false settled.0 other apart
  counters-row_effect_other (Delete table row) None effect other apart gives = cc
  counters-row_effect_other (Delete table row) (Some found) effect other apart gives = go (are_same found row) gives
    where
      go : (b : Bool) → cond b (Ok (record { after = None; numbers = numbers })) (Err DeleteConflict) ≡ Ok effect → get_or effect.numbers other [] ≡ get_or numbers other []
      go true e = let is : record { after = None; numbers = numbers } ≡ effect = cc in ap (λ (x : RowEffect). get_or x.numbers other []) (sym is)
      go false e = cc

  module _ (shape : HasShape schema) (counters : AreCounters schema numbers) where
    -- a settlement leaves a row with the key
    key_of-settled_effect : (table : ℕ) (inserting : Bool) (row key : Cells) (before : Option Cells) (effect : RowEffect) → RowFits (columns_of schema table) row → key_of (columns_of schema table) row ≡ key
        → before ≡ find_row (columns_of schema table) key (rows_of tables table) → settled_effect schema table (settlement_of schema tables numbers origin table inserting row) before ≡ Ok effect
        → IfSome effect.after (λ after. key_of (columns_of schema table) after ≡ key)
    key_of-settled_effect table inserting row key before effect fits own was gives = go (settlement_of schema tables numbers origin table inserting row).settled refl gives
      where
        stays : (old : Option Cells) → old ≡ find_row (columns_of schema table) key (rows_of tables table) → IfSome old (λ after. key_of (columns_of schema table) after ≡ key)
        stays None there = tt
        stays (Some found) there = key_of-found (columns_of schema table) key found (rows_of tables table) (sym there)

        go : (settled : Settled) → (settlement_of schema tables numbers origin table inserting row).settled ≡ settled
            → effect_by schema table settled before (settlement_of schema tables numbers origin table inserting row).numbers ≡ Ok effect → IfSome effect.after (λ after. key_of (columns_of schema table) after ≡ key)
        go (Fits one) fit e =
            let is = (checked_effect-Ok (failed_check schema table one) one (settlement_of schema tables numbers origin table inserting row).numbers effect e).1 in
            subst (λ (x : RowEffect). IfSome x.after (λ after. key_of (columns_of schema table) after ≡ key)) is (key_of-settled schema tables numbers origin table inserting row one fit shape fits counters ∙ own)
        go Dropped fit e =
            let is : record { after = before; numbers = (settlement_of schema tables numbers origin table inserting row).numbers } ≡ effect = cc in
            subst (λ (x : RowEffect). IfSome x.after (λ after. key_of (columns_of schema table) after ≡ key)) is (stays before was)
        go (Conflict name) fit e = cc

    module _ (apart : KeysStandAlone schema) (are : AreTables schema tables) where
      -- the row after the parts of an update fits and has the key
      fits_and_key-settled_parts : (table : ℕ) (key : Cells) (parts : List Part) (found after : Cells) → CallFits schema (Update table key parts)
          → Some found ≡ find_row (columns_of schema table) key (rows_of tables table) → settled_parts schema table parts found ≡ Ok after
          → RowFits (columns_of schema table) after × (key_of (columns_of schema table) after ≡ key)
      fits_and_key-settled_parts table key parts found after fits was gives = (
        RowFits-settled_parts schema table shape parts found after fits.content.parts_fit
            (found_row (columns_of schema table) key found (rows_of tables table) (sym was) (RowFits (columns_of schema table)) (are.each table fits.table).fit) gives,
        key_of-settled_parts schema table apart fits.table parts found after gives ∙ key_of-found (columns_of schema table) key found (rows_of tables table) (sym was),
      )

      -- a call leaves a row with the key that it names
      pub key_of-row_effect : (call : Call) (before : Option Cells) (effect : RowEffect) → CallFits schema call → before ≡ row_named schema tables call → row_effect schema tables numbers origin call before ≡ Ok effect
          → IfSome effect.after (λ after. key_of (columns_of schema (table_of call)) after ≡ key_named schema call)
      key_of-row_effect (Insert table row) before effect fits was gives = key_of-settled_effect table true row (key_of (columns_of schema table) row) before effect fits.content refl was gives
      key_of-row_effect (Update table key parts) None effect fits was gives = cc
      key_of-row_effect (Update table key parts) (Some found) effect fits was gives =
          let settled = result_then-Ok (settled_parts schema table parts found) (λ row. settled_effect schema table (settlement_of schema tables numbers origin table false row) (Some found)) effect gives in
          let both = fits_and_key-settled_parts table key parts found settled.0 fits was settled.1 in
          key_of-settled_effect table false settled.0 key (Some found) effect both.0 both.1 was settled.2
      key_of-row_effect (Delete table row) None effect fits was gives = cc
      key_of-row_effect (Delete table row) (Some found) effect fits was gives = go (are_same found row) gives
        where
          go : (b : Bool) → cond b (Ok (record { after = None; numbers = numbers })) (Err DeleteConflict) ≡ Ok effect
              → IfSome effect.after (λ after. key_of (columns_of schema table) after ≡ key_of (columns_of schema table) row)
          go true e =
              let is : record { after = None; numbers = numbers } ≡ effect = cc in
              subst (λ (x : RowEffect). IfSome x.after (λ after. key_of (columns_of schema table) after ≡ key_of (columns_of schema table) row)) is tt
          go false e = cc

      -- parts of groups without a constrained column give a row whose values are free
      pub free-settled_parts : (table : ℕ) (key : Cells) (parts : List Part) (found after : Cells) → CallFits schema (Update table key parts)
          → Some found ≡ find_row (columns_of schema table) key (rows_of tables table) → list_any (has_constrained_column schema table) parts ≡ false → settled_parts schema table parts found ≡ Ok after
          → AllByRecursion (IsFree (columns_of schema table) (rows_of tables table) after) (constraints_of schema table)
      free-settled_parts table key parts found after fits was plain gives =
          free-like schema table (rows_of tables table) found after (are.each table fits.table).fit
          (found_row (columns_of schema table) key found (rows_of tables table) (sym was) (RowFits (columns_of schema table)) (are.each table fits.table).fit)
          (found_row (columns_of schema table) key found (rows_of tables table) (sym was) (λ x. IsUniqueRow schema table x (rows_of tables table)) (are.each table fits.table).apart)
          (key_of-settled_parts schema table apart fits.table parts found after gives)
          (picked-settled_parts schema table parts found after plain gives)

      -- a call that doesn't touch its table's constraints leaves the counters and what the row has in constrained columns
      pub plain-row_effect : (call : Call) (before : Option Cells) (effect : RowEffect) → CallFits schema call → before ≡ row_named schema tables call → touches_constraints schema call ≡ false
          → row_effect schema tables numbers origin call before ≡ Ok effect
          → (effect.numbers ≡ numbers) × (constrained_in schema (table_of call) effect.after ≡ constrained_in schema (table_of call) before)
      plain-row_effect (Insert table row) before effect fits was plain gives = (
        numbers-settled_effect schema table (settlement_of schema tables numbers origin table true row) before effect gives
            ∙ ap (λ (x : Settlement). x.numbers) (settlement_of-free schema tables numbers origin table true row (free-none schema table (rows_of tables table) row plain)),
        rw plain refl,
      )
      plain-row_effect (Update table key parts) None effect fits was plain gives = cc
      plain-row_effect (Update table key parts) (Some found) effect fits was plain gives =
          let settled = result_then-Ok (settled_parts schema table parts found) (λ row. settled_effect schema table (settlement_of schema tables numbers origin table false row) (Some found)) effect gives in
          let free = settlement_of-free schema tables numbers origin table false settled.0 (free-settled_parts table key parts found settled.0 fits was plain settled.1) in
          let one : settled_effect schema table (record { settled = Fits settled.0; numbers = numbers }) (Some found) ≡ Ok effect = subst (λ s. settled_effect schema table s (Some found) ≡ Ok effect) free settled.2 in
          let is = (checked_effect-Ok (failed_check schema table settled.0) settled.0 numbers effect one).1 in (
            ap (λ (x : RowEffect). x.numbers) (sym is),
            ap (λ (x : RowEffect). constrained_in schema table x.after) (sym is)
                ∙ ap (λ values. cond (has_constraints schema table) (Some values) None) (picked-settled_parts schema table parts found settled.0 plain settled.1),
          )
      plain-row_effect (Delete table row) None effect fits was plain gives = cc
      plain-row_effect (Delete table row) (Some found) effect fits was plain gives = (go (are_same found row) gives, rw plain refl)
        where
          go : (b : Bool) → cond b (Ok (record { after = None; numbers = numbers })) (Err DeleteConflict) ≡ Ok effect → effect.numbers ≡ numbers
          go true e = let is : record { after = None; numbers = numbers } ≡ effect = cc in ap (λ (x : RowEffect). x.numbers) (sym is)
          go false e = cc
