-- What one call leaves of the row that it names, and of the counters.
use Rattle.std.proofs.Common.{◌≡◌, ◌≢◌, ℕ, ◌<◌, List, length, Bool, true, false, cond, Some, None, Ok, Err, refl, sym, ap, ◌∙◌, subst}
use Rattle.std.specs.Prelude.{Option}
use Rattle.rep_values.specs.declared.name.SiteName.{SiteName}
use Rattle.rep_values.specs.declared.refusal.ApplyError.TheVariants.{DeleteConflict}
use Rattle.rep_schema.specs.declared.schema.Schema.{Schema}
use Rattle.rep_schema.specs.declared.schema.Column.{Column}
use Rattle.rep_schema.specs.declared.check.Check.{Check}
use Rattle.rep_schema.specs.Tables.{Cells, Rows, columns_of, key_of, find_row, rows_of, RowFits, IsUniqueRow, AreTables}
use Rattle.rep_schema.specs.Changes.{IsChange}
use Rattle.rep_schema.specs.Shape.{HasShape}
use Rattle.rep_schema.specs.Groups.{are_same}
use Rattle.rep_schema.specs.Checks.{failed_check}
use Rattle.rep_schema.proofs.FoundRows.{found_row, key_of-found}
use Rattle.rep_schema.proofs.Leading.{IsChange-put, IsChange-take}
use Rattle.rep_calls.specs.declared.call.Call.{Call}
use Rattle.rep_calls.specs.declared.call.Call.TheVariants.{Insert, Update, Delete}
use Rattle.conflict_detect.specs.Fits.{table_of, CallFits}
use Rattle.unique_resolve.specs.declared.settled.Settled.{Settled}
use Rattle.unique_resolve.specs.declared.settled.Settled.TheVariants.{Fits, Dropped, Conflict}
use Rattle.unique_resolve.specs.Numbers.{Numbers, AreCounters}
use Rattle.unique_resolve.specs.Settling.{settlement_of}
use Rattle.unique_resolve.proofs.Settlements.{AreCounters-settled, RowFits-settled, key_of-settled, IsUniqueRow-settled}
use Rattle.txn_effects.specs.Parts.{settled_parts}
use Rattle.txn_effects.specs.Calls.{KeysStandAlone, row_named, RowEffect, checked_effect, effect_by, settled_effect, row_effect}
use Rattle.conflict_detect.specs.KeysNamed.{HasKeys}
use Rattle.txn_effects.specs.Laws.{IsChecked}
use Rattle.txn_effects.proofs.Results.{result_then-Ok}
use Rattle.txn_effects.proofs.PartEffects.{RowFits-settled_parts, key_of-settled_parts}

-- a row that comes out of the checks failed none, and stays as it is
pub checked_effect-Ok : (check : Option Check) (row : Cells) (numbers : Numbers) (effect : RowEffect) → checked_effect check row numbers ≡ Ok effect
    → (check ≡ None) × (record { after = Some row; numbers = numbers } ≡ effect)
checked_effect-Ok None row numbers effect gives = (refl, cc)
checked_effect-Ok (Some check) row numbers effect gives = cc

module _ (schema : Schema) (tables : List Rows) (numbers : Numbers) (origin : SiteName) (counters : AreCounters schema numbers) where
  -- there are as many counters after a settlement
  AreCounters-settled_effect : (table : ℕ) (inserting : Bool) (row : Cells) (before : Option Cells) (effect : RowEffect)
      → settled_effect schema table (settlement_of schema tables numbers origin table inserting row) before ≡ Ok effect → AreCounters schema effect.numbers
  AreCounters-settled_effect table inserting row before effect gives =
      go (settlement_of schema tables numbers origin table inserting row).settled gives
    where
      kept : AreCounters schema (settlement_of schema tables numbers origin table inserting row).numbers
      kept = AreCounters-settled schema tables numbers origin table inserting row counters

      go : (settled : Settled) → effect_by schema table settled before (settlement_of schema tables numbers origin table inserting row).numbers ≡ Ok effect → AreCounters schema effect.numbers
      go (Fits one) e = subst (λ (x : RowEffect). AreCounters schema x.numbers) (checked_effect-Ok (failed_check schema table one) one (settlement_of schema tables numbers origin table inserting row).numbers effect e).1 kept
      go Dropped e = let is : record { after = before; numbers = (settlement_of schema tables numbers origin table inserting row).numbers } ≡ effect = cc in subst (λ (x : RowEffect). AreCounters schema x.numbers) is kept
      go (Conflict name) e = cc

  -- after a call that succeeds there is still a counter for each constraint
  pub AreCounters-row_effect : (call : Call) (before : Option Cells) (effect : RowEffect) → row_effect schema tables numbers origin call before ≡ Ok effect → AreCounters schema effect.numbers
  AreCounters-row_effect (Insert table row) before effect gives = AreCounters-settled_effect table true row before effect gives
  AreCounters-row_effect (Update table key parts) None effect gives = cc
  AreCounters-row_effect (Update table key parts) (Some found) effect gives =
      let settled = result_then-Ok (settled_parts schema table parts found) (λ row. settled_effect schema table (settlement_of schema tables numbers origin table false row) (Some found)) effect gives in
      AreCounters-settled_effect table false settled.0 (Some found) effect settled.2
  AreCounters-row_effect (Delete table row) None effect gives = cc
  AreCounters-row_effect (Delete table row) (Some found) effect gives = go (are_same found row) gives
    where
      go : (b : Bool) → cond b (Ok (record { after = None; numbers = numbers })) (Err DeleteConflict) ≡ Ok effect → AreCounters schema effect.numbers
      go true e = let is : record { after = None; numbers = numbers } ≡ effect = cc in subst (λ (x : RowEffect). AreCounters schema x.numbers) is counters
      go false e = cc

  -- a settled row that is put in the place of another one meets the checks
  IsChecked-settled_effect : (table : ℕ) (inserting : Bool) (row : Cells) (before : Option Cells) (effect : RowEffect)
      → settled_effect schema table (settlement_of schema tables numbers origin table inserting row) before ≡ Ok effect → before ≢ effect.after
      → IsChecked schema (record { table = table; before = before; after = effect.after })
  IsChecked-settled_effect table inserting row before effect gives differ = go (settlement_of schema tables numbers origin table inserting row).settled gives
    where
      later : Numbers
      later = (settlement_of schema tables numbers origin table inserting row).numbers

      go : (settled : Settled) → effect_by schema table settled before later ≡ Ok effect → IsChecked schema (record { table = table; before = before; after = effect.after })
      go (Fits one) e =
          let checked = checked_effect-Ok (failed_check schema table one) one later effect e in
          subst (λ (x : RowEffect). IsChecked schema (record { table = table; before = before; after = x.after })) checked.1 checked.0
      go Dropped e = let same : before ≡ effect.after = cc in absurd (differ same)
      go (Conflict name) e = cc

  -- the row after a call that changes it meets the checks
  pub IsChecked-row_effect : (call : Call) (before : Option Cells) (effect : RowEffect) → row_effect schema tables numbers origin call before ≡ Ok effect → before ≢ effect.after
      → IsChecked schema (record { table = table_of call; before = before; after = effect.after })
  IsChecked-row_effect (Insert table row) before effect gives differ = IsChecked-settled_effect table true row before effect gives differ
  IsChecked-row_effect (Update table key parts) None effect gives differ = cc
  IsChecked-row_effect (Update table key parts) (Some found) effect gives differ =
      let settled = result_then-Ok (settled_parts schema table parts found) (λ row. settled_effect schema table (settlement_of schema tables numbers origin table false row) (Some found)) effect gives in
      IsChecked-settled_effect table false settled.0 (Some found) effect settled.2 differ
  IsChecked-row_effect (Delete table row) None effect gives differ = cc
  IsChecked-row_effect (Delete table row) (Some found) effect gives differ = go (are_same found row) gives
    where
      go : (b : Bool) → cond b (Ok (record { after = None; numbers = numbers })) (Err DeleteConflict) ≡ Ok effect
          → IsChecked schema (record { table = table; before = Some found; after = effect.after })
      go true e =
          let is : record { after = None; numbers = numbers } ≡ effect = cc in
          subst (λ (x : RowEffect). IsChecked schema (record { table = table; before = Some found; after = x.after })) is tt
      go false e = cc

  module _ (shape : HasShape schema) (keys : HasKeys schema) (are : AreTables schema tables) where
    module _ (table : ℕ) (below : table < length schema.tables) where
      abbrev columns : List Column
      columns = columns_of schema table

      abbrev rows : Rows
      rows = rows_of tables table

      -- what the row of a key becomes is a change that the tables allow
      abbrev IsChangeTo : Option Cells → Option Cells → Type 0
      IsChangeTo before after = IsChange schema (record { table = table; before = before; after = after }) tables

      -- a row that stays is such a change
      IsChange-same : (key : Cells) (before : Option Cells) → before ≡ find_row columns key rows → IsChangeTo before before
      IsChange-same key None was = IsChange-take schema table tables below (keys table below) key None was
      IsChange-same key (Some found) was =
          let own : key_of columns found ≡ key = key_of-found columns key found rows (sym was) in
          IsChange-put schema table tables below (keys table below) found (Some found)
          (found_row columns key found rows (sym was) (RowFits columns) (are.each table below).fit)
          (found_row columns key found rows (sym was) (λ x. IsUniqueRow schema table x rows) (are.each table below).apart)
          (was ∙ ap (λ k. find_row columns k rows) (sym own))

      -- so is a row that fits, once its uniqueness is settled
      IsChange-settled : (inserting : Bool) (row key : Cells) (before : Option Cells) (effect : RowEffect) → RowFits columns row → key_of columns row ≡ key → before ≡ find_row columns key rows
          → settled_effect schema table (settlement_of schema tables numbers origin table inserting row) before ≡ Ok effect → IsChangeTo before effect.after
      IsChange-settled inserting row key before effect fits own was gives =
          go (settlement_of schema tables numbers origin table inserting row).settled refl gives
        where
          go : (settled : Settled) → (settlement_of schema tables numbers origin table inserting row).settled ≡ settled
              → effect_by schema table settled before (settlement_of schema tables numbers origin table inserting row).numbers ≡ Ok effect → IsChangeTo before effect.after
          go (Fits one) fit e =
              let is = (checked_effect-Ok (failed_check schema table one) one (settlement_of schema tables numbers origin table inserting row).numbers effect e).1 in
              let key_stays : key_of columns one ≡ key = key_of-settled schema tables numbers origin table inserting row one fit shape fits counters ∙ own in
              subst (λ (x : RowEffect). IsChangeTo before x.after) is
              (IsChange-put schema table tables below (keys table below) one before
              (RowFits-settled schema tables numbers origin table inserting row one fit shape fits counters)
              (IsUniqueRow-settled schema tables numbers origin table inserting row one fit shape fits counters are below)
              (was ∙ ap (λ k. find_row columns k rows) (sym key_stays)))
          go Dropped fit e =
              let is : record { after = before; numbers = (settlement_of schema tables numbers origin table inserting row).numbers } ≡ effect = cc in
              subst (λ (x : RowEffect). IsChangeTo before x.after) is (IsChange-same key before was)
          go (Conflict name) fit e = cc

    -- what a call that succeeds does to the row that it names is a change that the tables allow
    pub IsChange-row_effect : (apart : KeysStandAlone schema) (call : Call) (before : Option Cells) (effect : RowEffect) → CallFits schema call → before ≡ row_named schema tables call
        → row_effect schema tables numbers origin call before ≡ Ok effect → IsChange schema (record { table = table_of call; before = before; after = effect.after }) tables
    IsChange-row_effect apart (Insert table row) before effect fits was gives =
        IsChange-settled table fits.table true row (key_of (columns_of schema table) row) before effect fits.content refl was gives
    IsChange-row_effect apart (Update table key parts) None effect fits was gives = cc
    IsChange-row_effect apart (Update table key parts) (Some found) effect fits was gives =
        let settled = result_then-Ok (settled_parts schema table parts found) (λ row. settled_effect schema table (settlement_of schema tables numbers origin table false row) (Some found)) effect gives in
        let found_fits : RowFits (columns_of schema table) found =
        found_row (columns_of schema table) key found (rows_of tables table) (sym was) (RowFits (columns_of schema table)) (are.each table fits.table).fit in
        let own : key_of (columns_of schema table) settled.0 ≡ key =
        key_of-settled_parts schema table apart fits.table parts found settled.0 settled.1 ∙ key_of-found (columns_of schema table) key found (rows_of tables table) (sym was) in
        IsChange-settled table fits.table false settled.0 key (Some found) effect
        (RowFits-settled_parts schema table shape parts found settled.0 fits.content.parts_fit found_fits settled.1) own was settled.2
    IsChange-row_effect apart (Delete table row) None effect fits was gives = cc
    IsChange-row_effect apart (Delete table row) (Some found) effect fits was gives = go (are_same found row) gives
      where
        go : (b : Bool) → cond b (Ok (record { after = None; numbers = numbers })) (Err DeleteConflict) ≡ Ok effect
            → IsChange schema (record { table = table; before = Some found; after = effect.after }) tables
        go true e =
            let is : record { after = None; numbers = numbers } ≡ effect = cc in
            subst (λ (x : RowEffect). IsChange schema (record { table = table; before = Some found; after = x.after }) tables) is
            (IsChange-take schema table tables fits.table (keys table fits.table) (key_of (columns_of schema table) row) (Some found) was)
        go false e = cc
