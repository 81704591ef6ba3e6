-- The row changes of a transaction that keeps the forms of groups, as calls, keep them too.
use Rattle.std.proofs.Common.{◌≡◌, ℕ, ◌+◌, Bool, true, false, cond, List, [], ◌∷◌, ◌++◌, map, Some, None, Ok, refl, sym, ◌∙◌, subst}
use mathlib.Core.Bool.{true≢false}
use Rattle.std.specs.Prelude.{Option, filter, ◌==◌}
use Rattle.std.specs.List.{AllByRecursion}
use Rattle.rep_values.specs.declared.name.SiteName.{SiteName}
use Rattle.rep_schema.specs.declared.schema.Schema.{Schema}
use Rattle.rep_schema.specs.declared.change.Change.{Change}
use Rattle.rep_schema.specs.Tables.{Cells, Rows, columns_of, rows_of, RowFits, AreTables}
use Rattle.rep_schema.specs.Putting.{is_unchanged, changes_between, after_changes}
use Rattle.rep_schema.proofs.FoundRows.{found_row}
use Rattle.rep_calls.specs.declared.call.Call.{Call}
use Rattle.rep_calls.specs.declared.call.Call.TheVariants.{Insert, Update, Delete}
use Rattle.conflict_detect.specs.Fits.{CallFits, table_of}
use Rattle.conflict_detect.specs.ChangeCalls.{call_between, call_of}
use Rattle.unique_resolve.specs.Numbers.{Numbers, AreCounters}
use Rattle.txn_effects.specs.Calls.{Effect, RowEffect, row_named, row_effect, call_effect}
use Rattle.txn_effects.specs.Transactions.{failing_at, effect_behind, calls_effect}
use Rattle.txn_effects.proofs.Results.{result_then-Ok}
use Rattle.txn_effects.proofs.TransactionEffects.{IsApplied-call_effect}
use Rattle.txn_effects.specs.Convergent.{is_convergent}
use Rattle.rep_laws.specs.Commuting.{IsSound}
use Rattle.rep_laws.proofs.SoundSchemas.{HasKeys-sound, KeysStandAlone-sound}
use Rattle.rep_laws.specs.GroupForms.{KeepsForms}
use Rattle.convergence_laws.specs.Laws.{RowChangesKeepForms}
use Rattle.convergence_laws.proofs.Moves.{DecisionLaws}
use Rattle.rep_laws.proofs.ConvergentRows.{StandsAlone-convergent, Leaves-insert, Leaves-update}
use Rattle.convergence_laws.proofs.RowsCome.{parts_move}
use Rattle.convergence_laws.proofs.CallsCome.{failing_at-Ok, behind-Ok}
use Rattle.convergence_laws.proofs.ChangesKeepForms.{parts_between_keep}

-- the calls of these changes keep the forms
abbrev pub CallsKeep : Schema → List Change → Type 0
CallsKeep schema changes = AllByRecursion (KeepsForms schema) (map (call_of schema) changes)

calls_keep-append : (schema : Schema) (changes others : List Change) → CallsKeep schema changes → CallsKeep schema others → CallsKeep schema (changes ++ others)
calls_keep-append schema [] others first rest = rest
calls_keep-append schema (c ∷ cs) others first rest = (first.0, calls_keep-append schema cs others first.1 rest)

-- in another table every change does
pub plain_keeps : (schema : Schema) (table : ℕ) → is_convergent schema table ≡ false → (before after : Option Cells) → KeepsForms schema (call_between schema table before after)
plain_keeps schema table plain None None = λ e. tt
plain_keeps schema table plain None (Some row) = tt
plain_keeps schema table plain (Some row) None = plain
plain_keeps schema table plain (Some row) (Some other) = λ e. absurd (true≢false (sym e ∙ plain))

-- a change where a row changed
pub change_keeps : (schema : Schema) (table : ℕ) (before after : Option Cells) → KeepsForms schema (call_between schema table before after) → CallsKeep schema (changes_between table before after)
change_keeps schema table before after keeps = go (is_unchanged before after)
  where
    go : (b : Bool) → CallsKeep schema (cond b [] (record { table = table; before = before; after = after } ∷ []))
    go true = tt
    go false = (keeps, tt)

module _ (schema : Schema) (sound : IsSound schema) (decides : DecisionLaws) where
  module _ (tables : List Rows) (numbers : Numbers) (origin : SiteName) (are : AreTables schema tables) where
    convergent_keeps : (call : Call) (effect : RowEffect) → CallFits schema call → KeepsForms schema call → is_convergent schema (table_of call) ≡ true
        → row_effect schema tables numbers origin call (row_named schema tables call) ≡ Ok effect → KeepsForms schema (call_between schema (table_of call) (row_named schema tables call) effect.after)
    convergent_keeps (Insert table row) effect fits keeps convergent gives =
        let left = Leaves-insert schema tables numbers origin table (StandsAlone-convergent schema sound table convergent) row (row_named schema tables (Insert table row)) effect refl gives in
        rw (left.0, left.1) tt
    convergent_keeps (Update table key parts) effect fits keeps convergent gives =
        let left = Leaves-update schema tables numbers origin table (StandsAlone-convergent schema sound table convergent) key parts (row_named schema tables (Update table key parts)) effect gives in
        let row_fits : RowFits (columns_of schema table) left.0 = found_row (columns_of schema table) key left.0 (rows_of tables table) left.1 (RowFits (columns_of schema table)) (are.each table fits.table).fit in
        let kept = parts_between_keep schema sound table convergent left.0 left.2
        (λ group f has. (filter (λ part. part.group == group) parts, parts_move schema sound decides table group convergent f has parts left.0 left.2 fits.content.parts_fit (keeps convergent) row_fits left.3)) in
        subst (λ b. KeepsForms schema (call_between schema table b effect.after)) (sym left.1)
        (subst (λ a. KeepsForms schema (call_between schema table (Some left.0) a)) (sym left.4) (λ e. kept))
    convergent_keeps (Delete table row) effect fits keeps convergent gives = absurd (true≢false (sym convergent ∙ keeps))

    row_keeps : (call : Call) (effect : RowEffect) → CallFits schema call → KeepsForms schema call → row_effect schema tables numbers origin call (row_named schema tables call) ≡ Ok effect
        → KeepsForms schema (call_between schema (table_of call) (row_named schema tables call) effect.after)
    row_keeps call effect fits keeps gives = go (is_convergent schema (table_of call)) refl
      where
        go : (b : Bool) → is_convergent schema (table_of call) ≡ b → KeepsForms schema (call_between schema (table_of call) (row_named schema tables call) effect.after)
        go true e = convergent_keeps call effect fits keeps e gives
        go false e = plain_keeps schema (table_of call) e (row_named schema tables call) effect.after

  -- the changes of one call
  call_changes_keep : (call : Call) (tables : List Rows) (numbers : Numbers) (origin : SiteName) (one : Effect) → AreTables schema tables → CallFits schema call → KeepsForms schema call
      → call_effect schema tables numbers origin call ≡ Ok one → CallsKeep schema one.changes
  call_changes_keep call tables numbers origin one are fits keeps gives =
      let some = result_then-Ok (row_effect schema tables numbers origin call (row_named schema tables call))
      (λ (x : RowEffect). Ok (record { changes = changes_between (table_of call) (row_named schema tables call) x.after; numbers = x.numbers })) one gives in
      let is : record { changes = changes_between (table_of call) (row_named schema tables call) some.0.after; numbers = some.0.numbers } ≡ one = cc (some.2) in
      subst (λ (x : Effect). CallsKeep schema x.changes) is
      (change_keeps schema (table_of call) (row_named schema tables call) some.0.after (row_keeps tables numbers origin are call some.0 fits keeps some.1))

  -- of all
  calls_changes_keep : (number : ℕ) (calls : List Call) (tables : List Rows) (numbers : Numbers) (origin : SiteName) (effect : Effect) → AreTables schema tables → AreCounters schema numbers
      → AllByRecursion (CallFits schema) calls → AllByRecursion (KeepsForms schema) calls → calls_effect schema origin number calls tables numbers ≡ Ok effect → CallsKeep schema effect.changes
  calls_changes_keep number [] tables numbers origin effect are counters fit keep gives =
      let is : record { changes = []; numbers = numbers } ≡ effect = cc in
      subst (λ (x : Effect). CallsKeep schema x.changes) is tt
  calls_changes_keep number (call ∷ calls) tables numbers origin effect are counters fit keep gives =
      let some = result_then-Ok (failing_at number (call_effect schema tables numbers origin call))
      (λ (x : Effect). effect_behind x.changes (calls_effect schema origin (number + 1) calls (after_changes schema x.changes tables) x.numbers)) effect gives in
      let one : Effect = some.0 in
      let first = failing_at-Ok number (call_effect schema tables numbers origin call) one some.1 in
      let applied = IsApplied-call_effect schema origin sound.shape (HasKeys-sound schema sound.unbroken sound.shape) (KeysStandAlone-sound schema sound.unbroken) call tables numbers one are counters fit.0 first in
      let rest = behind-Ok one.changes (calls_effect schema origin (number + 1) calls (after_changes schema one.changes tables) one.numbers) effect some.2 in
      subst (λ (x : Effect). CallsKeep schema x.changes) rest.2
      (calls_keep-append schema one.changes rest.0.changes
      (call_changes_keep call tables numbers origin one are fit.0 keep.0 first)
      (calls_changes_keep (number + 1) calls (after_changes schema one.changes tables) one.numbers origin rest.0 applied.are applied.counters fit.1 keep.1 rest.1))

pub row_changes_keep_forms : DecisionLaws → RowChangesKeepForms
row_changes_keep_forms decides schema origin txn content effect sound is txn_sound gives =
    calls_changes_keep schema sound decides 1 txn.calls content.tables content.numbers origin effect is.tables is.counters txn_sound.fits.calls txn_sound.keeps gives
