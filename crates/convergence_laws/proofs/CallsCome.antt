-- A row of a convergent table after a call, after those of a transaction, and what was applied to it.
use Rattle.std.proofs.Common.{◌≡◌, ℕ, ◌+◌, ◌==◌, Bool, true, false, List, [], ◌∷◌, ◌++◌, Some, None, Ok, Err, refl, sym, ap, ◌∙◌, subst, inl, inr, arith}
use mathlib.Core.Bool.{true≢false}
use Rattle.std.specs.Prelude.{Option, Result, filter, IfSome}
use Rattle.std.specs.List.{AllByRecursion}
use Rattle.std.proofs.lemmas.Bool.{eq-eqb}
use Rattle.std.proofs.lemmas.Bool.Decides.{eqb_tells}
use Rattle.rep_values.specs.declared.name.SiteName.{SiteName}
use Rattle.rep_values.specs.declared.refusal.ApplyError.{ApplyError}
use Rattle.rep_schema.specs.declared.schema.Schema.{Schema}
use Rattle.rep_schema.specs.declared.change.Change.{Change}
use Rattle.rep_schema.specs.Tables.{Cells, Rows, columns_of, key_of, find_row, rows_of, RowFits, AreTables}
use Rattle.rep_schema.specs.Groups.{are_same}
use Rattle.rep_schema.specs.Putting.{changes_between, after_changes}
use Rattle.rep_schema.proofs.FoundRows.{found_row}
use Rattle.rep_schema.proofs.Making.{after_changes-append}
use Rattle.rep_schema.proofs.ValuesAt.{are_same-Decides}
use Rattle.rep_calls.specs.declared.call.Part.{Part}
use Rattle.rep_calls.specs.declared.call.Call.{Call}
use Rattle.rep_calls.specs.declared.call.Call.TheVariants.{Insert, Update, Delete}
use Rattle.rep_calls.specs.declared.call.Txn.{Txn}
use Rattle.conflict_detect.specs.Fits.{CallFits, TxnFits, table_of}
use Rattle.unique_resolve.specs.Numbers.{Numbers, AreCounters}
use Rattle.txn_effects.specs.Calls.{Effect, RowEffect, row_named, row_effect, call_effect}
use Rattle.conflict_detect.specs.KeysNamed.{key_named}
use Rattle.txn_effects.specs.Transactions.{Failure, failing_at, effect_behind, calls_effect}
use Rattle.txn_effects.specs.Contents.{Content, IsContent, effect_on, content_after}
use Rattle.txn_effects.proofs.Results.{result_then-Ok}
use Rattle.txn_effects.proofs.TransactionEffects.{IsApplied-call_effect}
use Rattle.txn_effects.specs.Convergent.{is_convergent}
use Rattle.rep_laws.specs.Commuting.{IsSound}
use Rattle.rep_laws.proofs.SoundSchemas.{HasKeys-sound, KeysStandAlone-sound}
use Rattle.rep_laws.proofs.TokenTests.{AreElsewhere, place_cases}
use Rattle.rep_laws.proofs.RowEffects.{key_of-row_effect}
use Rattle.rep_laws.proofs.ChangedRows.{find_row-changed, find_row-changed_other}
use Rattle.rep_laws.specs.GroupForms.{KeepsForms, TxnKeepsForms}
use Rattle.convergence_laws.specs.Joins.{is_row, parts_for, parts_in, inserts_for, inserts_in}
use Rattle.convergence_laws.proofs.Moves.{DecisionLaws}
use Rattle.rep_laws.proofs.ConvergentRows.{StandsAlone, StandsAlone-convergent, Leaves-insert, Leaves-update}
use Rattle.convergence_laws.proofs.RowsCome.{parts_move, Came, came_not, came_on}

-- ---- whether a call names a row

pub is_row-same : (table : ℕ) (key : Cells) (other_table : ℕ) (other : Cells) → table ≡ other_table → key ≡ other → is_row table key other_table other ≡ true
is_row-same table key other_table other tables keys = rw (eq-eqb other_table table (sym tables), (are_same-Decides other key).1 (sym keys)) refl

pub is_row-elsewhere : (table : ℕ) (key : Cells) (other_table : ℕ) (other : Cells) → AreElsewhere table key other_table other → is_row table key other_table other ≡ false
is_row-elsewhere table key other_table other elsewhere = elim (eqb_tells other_table table) [
  | inl same ↦ rw same.0 (go (are_same other key) refl (elsewhere (sym same.1)))
  | inr apart ↦ rw apart.0 refl
]
  where
    go : (b : Bool) → are_same other key ≡ b → (key ≡ other → ⊥) → b ≡ false
    go true e differ = absurd (differ (sym ((are_same-Decides other key).0 e)))
    go false e differ = refl

pub failing_at-Ok : {A : Type 0} (number : ℕ) (result : Result A ApplyError) (a : A) → failing_at number result ≡ Ok a → result ≡ Ok a
failing_at-Ok number (Ok b) a gives = cc
failing_at-Ok number (Err error) a gives = cc

pub behind-Ok : (changes : List Change) (result : Result Effect Failure) (effect : Effect) → effect_behind changes result ≡ Ok effect
    → (later : Effect) × (result ≡ Ok later) × (record { changes = changes ++ later.changes; numbers = later.numbers } ≡ effect)
behind-Ok changes (Ok later) effect gives = (later, refl, cc)
behind-Ok changes (Err failure) effect gives = cc

module _ (schema : Schema) (sound : IsSound schema) (decides : DecisionLaws) (table group : ℕ) (convergent : is_convergent schema table ≡ true) where
  abbrev mine : List Part → List Part
  mine parts = filter (λ part. part.group == group) parts

  -- the row of a key
  abbrev pub row_in : List Rows → Cells → Option Cells
  row_in tables key = find_row (columns_of schema table) key (rows_of tables table)

  abbrev Comes : Option Cells → Option Cells → List Cells → List Part → Type 0
  Comes = Came schema sound decides table group convergent

  alone : StandsAlone schema table
  alone = StandsAlone-convergent schema sound table convergent

  comes_as : (before after one other : Option Cells) (inserted : List Cells) (parts : List Part) → before ≡ one → after ≡ other → Comes one other inserted parts → Comes before after inserted parts
  comes_as before after one other inserted parts p q comes = rw (p, q) comes

  module _ (tables : List Rows) (numbers : Numbers) (origin : SiteName) (are : AreTables schema tables) (counters : AreCounters schema numbers) (key : Cells) where
    update_here : (parts : List Part) (effect : RowEffect) → CallFits schema (Update table key parts) → KeepsForms schema (Update table key parts)
        → row_effect schema tables numbers origin (Update table key parts) (row_in tables key) ≡ Ok effect → Comes (row_in tables key) effect.after [] (mine parts)
    update_here parts effect fits keeps gives =
        let left = Leaves-update schema tables numbers origin table alone key parts (row_in tables key) effect gives in
        let found : Cells = left.0 in
        let row_fits : RowFits (columns_of schema table) found = found_row (columns_of schema table) key found (rows_of tables table) left.1 (RowFits (columns_of schema table)) (are.each table fits.table).fit in
        comes_as (row_in tables key) effect.after (Some found) (Some left.2) [] (mine parts) left.1 left.4 (record {
          value = λ f has. ap Some (parts_move schema sound decides table group convergent f has parts found left.2 fits.content.parts_fit (keeps convergent) row_fits left.3);
          absent = λ e. cc;
          none = λ e. cc;
          some = λ row e. refl;
          one = omega arith;
        })

    insert_here : (row : Cells) (effect : RowEffect) → key_of (columns_of schema table) row ≡ key
        → row_effect schema tables numbers origin (Insert table row) (row_in tables (key_of (columns_of schema table) row)) ≡ Ok effect → Comes (row_in tables key) effect.after (row ∷ []) []
    insert_here row effect own gives =
        let left = Leaves-insert schema tables numbers origin table alone row (row_in tables (key_of (columns_of schema table) row)) effect refl gives in
        comes_as (row_in tables key) effect.after None (Some row) (row ∷ []) [] (ap (row_in tables) (sym own) ∙ left.0) left.1 (record {
          value = λ f has. refl;
          absent = λ e. cc;
          none = λ e. cc;
          some = λ r e. cc;
          one = omega arith;
        })

    -- what a call does elsewhere
    module _ (call : Call) (effect : RowEffect) (fits : CallFits schema call) (gives : row_effect schema tables numbers origin call (row_named schema tables call) ≡ Ok effect) where
      abbrev later : List Rows
      later = after_changes schema (changes_between (table_of call) (row_named schema tables call) effect.after) tables

      own_key : IfSome effect.after (λ after. key_of (columns_of schema (table_of call)) after ≡ key_named schema call)
      own_key = key_of-row_effect schema tables numbers origin sound.shape counters (KeysStandAlone-sound schema sound.unbroken) are call (row_named schema tables call) effect fits refl gives

      stays : AreElsewhere table key (table_of call) (key_named schema call) → row_in later key ≡ row_in tables key
      stays elsewhere = find_row-changed_other schema tables are (table_of call) fits.table (key_named schema call) (row_named schema tables call) effect.after refl own_key table key elsewhere

      becomes : table ≡ table_of call → key ≡ key_named schema call → row_in later key ≡ effect.after
      becomes same keys = subst (λ u. find_row (columns_of schema u) key (rows_of later u) ≡ effect.after) (sym same)
          (subst (λ k. find_row (columns_of schema (table_of call)) k (rows_of later (table_of call)) ≡ effect.after) (sym keys)
          (find_row-changed schema tables are (table_of call) fits.table (key_named schema call) (row_named schema tables call) effect.after refl own_key))

    call_comes : (call : Call) (effect : RowEffect) → CallFits schema call → KeepsForms schema call → (gives : row_effect schema tables numbers origin call (row_named schema tables call) ≡ Ok effect)
        → Comes (row_in tables key) (row_in (after_changes schema (changes_between (table_of call) (row_named schema tables call) effect.after) tables) key) (inserts_for schema table key call) (parts_for table key group call)
    call_comes (Insert t row) effect fits keeps gives = elim (place_cases table key t (key_of (columns_of schema t) row)) [
      | inl same ↦ rw (becomes (Insert t row) effect fits gives same.0 same.1, is_row-same table key t (key_of (columns_of schema t) row) same.0 same.1)
          (insert_here row effect (sym (same.1 ∙ ap (λ u. key_of (columns_of schema u) row) (sym same.0)))
          (subst (λ u. row_effect schema tables numbers origin (Insert u row) (find_row (columns_of schema u) (key_of (columns_of schema u) row) (rows_of tables u)) ≡ Ok effect) (sym same.0) gives))
      | inr elsewhere ↦ rw (stays (Insert t row) effect fits gives elsewhere, is_row-elsewhere table key t (key_of (columns_of schema t) row) elsewhere) (came_not schema sound decides table group convergent (row_in tables key))
    ]
    call_comes (Update t k parts) effect fits keeps gives = elim (place_cases table key t k) [
      | inl same ↦ rw (becomes (Update t k parts) effect fits gives same.0 same.1, is_row-same table key t k same.0 same.1)
          (update_here parts effect (rw (same.0, same.1) fits) (rw (same.0) keeps) (rw (same.0, same.1) gives))
      | inr elsewhere ↦ rw (stays (Update t k parts) effect fits gives elsewhere, is_row-elsewhere table key t k elsewhere) (came_not schema sound decides table group convergent (row_in tables key))
    ]
    call_comes (Delete t row) effect fits keeps gives = elim (place_cases table key t (key_of (columns_of schema t) row)) [
      | inl same ↦ absurd (true≢false (sym convergent ∙ ap (is_convergent schema) same.0 ∙ keeps))
      | inr elsewhere ↦ rw (stays (Delete t row) effect fits gives elsewhere) (came_not schema sound decides table group convergent (row_in tables key))
    ]

  -- the row after a call that succeeds
  call_effect_comes : (key : Cells) (call : Call) (tables : List Rows) (numbers : Numbers) (origin : SiteName) (one : Effect) → AreTables schema tables → AreCounters schema numbers → CallFits schema call → KeepsForms schema call
      → call_effect schema tables numbers origin call ≡ Ok one → Comes (row_in tables key) (row_in (after_changes schema one.changes tables) key) (inserts_for schema table key call) (parts_for table key group call)
  call_effect_comes key call tables numbers origin one are counters fits keeps gives =
      let some = result_then-Ok (row_effect schema tables numbers origin call (row_named schema tables call))
      (λ (x : RowEffect). Ok (record { changes = changes_between (table_of call) (row_named schema tables call) x.after; numbers = x.numbers })) one gives in
      let is : record { changes = changes_between (table_of call) (row_named schema tables call) some.0.after; numbers = some.0.numbers } ≡ one = cc (some.2) in
      subst (λ (x : Effect). Comes (row_in tables key) (row_in (after_changes schema x.changes tables) key) (inserts_for schema table key call) (parts_for table key group call)) is
      (call_comes tables numbers origin are counters key call some.0 fits keeps some.1)

  -- after those of a list
  pub calls_come : (key : Cells) (number : ℕ) (calls : List Call) (tables : List Rows) (numbers : Numbers) (origin : SiteName) (effect : Effect) → AreTables schema tables → AreCounters schema numbers
      → AllByRecursion (CallFits schema) calls → AllByRecursion (KeepsForms schema) calls → calls_effect schema origin number calls tables numbers ≡ Ok effect
      → Comes (row_in tables key) (row_in (after_changes schema effect.changes tables) key) (inserts_in schema table key calls) (parts_in table key group calls)
  calls_come key number [] tables numbers origin effect are counters fit keep gives =
      let is : record { changes = []; numbers = numbers } ≡ effect = cc in
      subst (λ (x : Effect). Comes (row_in tables key) (row_in (after_changes schema x.changes tables) key) [] []) is (came_not schema sound decides table group convergent (row_in tables key))
  calls_come key number (call ∷ calls) tables numbers origin effect are counters fit keep gives =
      let some = result_then-Ok (failing_at number (call_effect schema tables numbers origin call))
      (λ (x : Effect). effect_behind x.changes (calls_effect schema origin (number + 1) calls (after_changes schema x.changes tables) x.numbers)) effect gives in
      let one : Effect = some.0 in
      let first = failing_at-Ok number (call_effect schema tables numbers origin call) one some.1 in
      let applied = IsApplied-call_effect schema origin sound.shape (HasKeys-sound schema sound.unbroken sound.shape) (KeysStandAlone-sound schema sound.unbroken) call tables numbers one are counters fit.0 first in
      let rest = behind-Ok one.changes (calls_effect schema origin (number + 1) calls (after_changes schema one.changes tables) one.numbers) effect some.2 in
      subst (λ (x : Effect). Comes (row_in tables key) (row_in (after_changes schema x.changes tables) key) (inserts_in schema table key (call ∷ calls)) (parts_in table key group (call ∷ calls))) rest.2
      (rw (after_changes-append schema one.changes rest.0.changes tables)
      (came_on schema sound decides table group convergent (row_in tables key) (row_in (after_changes schema one.changes tables) key) (row_in (after_changes schema rest.0.changes (after_changes schema one.changes tables)) key)
      (inserts_for schema table key call) (inserts_in schema table key calls) (parts_for table key group call) (parts_in table key group calls)
      (call_effect_comes key call tables numbers origin one are counters fit.0 keep.0 first)
      (calls_come key (number + 1) calls (after_changes schema one.changes tables) one.numbers origin rest.0 applied.are applied.counters fit.1 keep.1 rest.1)))

  -- after a transaction that succeeds
  pub txn_comes : (key : Cells) (txn : Txn) (content : Content) (origin : SiteName) (effect : Effect) → IsContent schema content → TxnFits schema txn → TxnKeepsForms schema txn → effect_on schema origin txn content ≡ Ok effect
      → Comes (row_in content.tables key) (row_in (content_after schema origin txn content).tables key) (inserts_in schema table key txn.calls) (parts_in table key group txn.calls)
  txn_comes key txn content origin effect is fits keeps gives = rw gives
      (calls_come key 1 txn.calls content.tables content.numbers origin effect is.tables is.counters fits.calls keeps gives)
