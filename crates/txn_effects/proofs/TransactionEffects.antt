-- What calls one after the other do to tables and counters.
use Rattle.std.proofs.Common.{◌≡◌, ◌≢◌, ℕ, ◌+◌, List, [], ◌∷◌, ◌++◌, Bool, true, false, cond, Ok, Err, refl, sym, ap, ◌∙◌, subst, append_assoc}
use Rattle.std.specs.Prelude.{Option, Result, drop}
use Rattle.std.specs.List.{AllByRecursion}
use Rattle.std.proofs.lemmas.Bool.Decides.{not_from_Decides}
use Rattle.std.proofs.lemmas.List.{append-nil}
use Rattle.rep_values.specs.declared.name.SiteName.{SiteName}
use Rattle.rep_values.specs.declared.refusal.ApplyError.{ApplyError}
use Rattle.rep_schema.specs.declared.schema.Schema.{Schema}
use Rattle.rep_schema.specs.declared.change.Change.{Change}
use Rattle.rep_schema.specs.Tables.{Cells, Rows, AreTables}
use Rattle.rep_schema.specs.Changes.{IsChange}
use Rattle.rep_schema.specs.Shape.{HasShape}
use Rattle.rep_schema.proofs.TakingBack.{AreTables-made}
use Rattle.rep_schema.proofs.Leading.{LeadsTo-append}
use Rattle.rep_calls.specs.declared.call.Call.{Call}
use Rattle.rep_calls.specs.declared.call.Txn.{Txn}
use Rattle.conflict_detect.specs.Fits.{table_of, CallFits}
use Rattle.unique_resolve.specs.Numbers.{Numbers, AreCounters}
use Rattle.rep_schema.specs.Putting.{is_unchanged, changes_between, after_changes}
use Rattle.txn_effects.specs.Calls.{KeysStandAlone, row_named, RowEffect, row_effect, Effect, call_effect}
use Rattle.conflict_detect.specs.KeysNamed.{HasKeys}
use Rattle.txn_effects.specs.Transactions.{Failure, failing_at, effect_behind, calls_effect, txn_effect}
use Rattle.txn_effects.specs.Laws.{CanApply, IsChecked, IsApplied}
use Rattle.txn_effects.proofs.Results.{result_then-Ok}
use Rattle.rep_schema.proofs.Making.{is_unchanged-Decides, after_changes-append}
use Rattle.txn_effects.proofs.CallEffects.{AreCounters-row_effect, IsChange-row_effect, IsChecked-row_effect}

-- each of some values and of others behind them
each_append : {X : Type 0} (P : X → Type 0) (xs ys : List X) → AllByRecursion P xs → AllByRecursion P ys → AllByRecursion P (xs ++ ys)
each_append P [] ys first rest = rest
each_append P (x ∷ xs) ys first rest = (first.0, each_append P xs ys first.1 rest)

-- no changes before others change nothing
pub effect_behind-none : (result : Result Effect Failure) → effect_behind [] result ≡ result
effect_behind-none (Ok effect) = refl
effect_behind-none (Err failure) = refl

-- changes before changes before others
pub effect_behind-behind : (changes others : List Change) (result : Result Effect Failure) → effect_behind changes (effect_behind others result) ≡ effect_behind (changes ++ others) result
effect_behind-behind changes others (Ok effect) = ap (λ cs. Ok (record { changes = cs; numbers = effect.numbers })) (sym (append_assoc changes others effect.changes))
effect_behind-behind changes others (Err failure) = refl

-- where something comes out behind earlier changes, it came out before
pub effect_behind-Ok : (changes : List Change) (result : Result Effect Failure) (effect : Effect) → effect_behind changes result ≡ Ok effect
    → (later : Effect) × (result ≡ Ok later) × (record { changes = changes ++ later.changes; numbers = later.numbers } ≡ effect)
effect_behind-Ok changes (Ok later) effect gives = (later, refl, cc)
effect_behind-Ok changes (Err failure) effect gives = cc

pub failing_at-Ok : {A : Type 0} (number : ℕ) (result : Result A ApplyError) (a : A) → failing_at number result ≡ Ok a → result ≡ Ok a
failing_at-Ok number (Ok b) a gives = cc
failing_at-Ok number (Err error) a gives = cc

module _ (schema : Schema) (origin : SiteName) where
  module _ (call : Call) (tables : List Rows) (numbers : Numbers) (number : ℕ) (calls : List Call) where
    -- a call that succeeds, and what the calls behind it do then
    pub calls_effect-Ok : (one : Effect) → call_effect schema tables numbers origin call ≡ Ok one
        → calls_effect schema origin number (call ∷ calls) tables numbers ≡ effect_behind one.changes (calls_effect schema origin (number + 1) calls (after_changes schema one.changes tables) one.numbers)
    calls_effect-Ok one gives = rw gives refl

    -- where a call fails, the calls behind it do nothing
    pub calls_effect-Err : (error : ApplyError) → call_effect schema tables numbers origin call ≡ Err error
        → calls_effect schema origin number (call ∷ calls) tables numbers ≡ Err (record { call = number; error = error })
    calls_effect-Err error fails = rw fails refl

  -- what the calls so far have done, by the tables and counters now: what the calls behind them do from there decides
  module _ (calls : List Call) (tables now : List Rows) (numbers now_numbers : Numbers) (done : List Change) (i : ℕ)
      (so_far : calls_effect schema origin 1 calls tables numbers ≡ effect_behind done (calls_effect schema origin (i + 1) (drop i calls) now now_numbers)) where
    -- one more call that succeeds
    pub so_far-Ok : (call : Call) (one : Effect) → drop i calls ≡ call ∷ drop (i + 1) calls → call_effect schema now now_numbers origin call ≡ Ok one
        → calls_effect schema origin 1 calls tables numbers
        ≡ effect_behind (done ++ one.changes) (calls_effect schema origin (i + 1 + 1) (drop (i + 1) calls) (after_changes schema one.changes now) one.numbers)
    so_far-Ok call one here gives =
        so_far ∙ ap (effect_behind done) (rw here (calls_effect-Ok call now now_numbers (i + 1) (drop (i + 1) calls) one gives))
        ∙ effect_behind-behind done one.changes (calls_effect schema origin (i + 1 + 1) (drop (i + 1) calls) (after_changes schema one.changes now) one.numbers)

    -- one that fails
    pub so_far-Err : (call : Call) (error : ApplyError) → drop i calls ≡ call ∷ drop (i + 1) calls → call_effect schema now now_numbers origin call ≡ Err error
        → calls_effect schema origin 1 calls tables numbers ≡ Err (record { call = i + 1; error = error })
    so_far-Err call error here fails = so_far ∙ rw (here, calls_effect-Err call now now_numbers (i + 1) (drop (i + 1) calls) error fails) refl

    -- no more calls
    pub so_far-all : drop i calls ≡ [] → calls_effect schema origin 1 calls tables numbers ≡ Ok (record { changes = done; numbers = now_numbers })
    so_far-all none = so_far ∙ rw (none, append-nil done) refl

-- no changes lead to the same tables
pub IsApplied-none : (schema : Schema) (tables : List Rows) (numbers : Numbers) → AreTables schema tables → AreCounters schema numbers → IsApplied schema tables (record { changes = []; numbers = numbers })
IsApplied-none schema tables numbers are counters = record { leads = refl; differ = tt; checked = tt; are = are; counters = counters }

-- what leads to tables, and then on to others
pub IsApplied-then : (schema : Schema) (tables : List Rows) (one later : Effect) → IsApplied schema tables one → IsApplied schema (after_changes schema one.changes tables) later
    → IsApplied schema tables (record { changes = one.changes ++ later.changes; numbers = later.numbers })
IsApplied-then schema tables one later first rest =
    let whole = after_changes-append schema one.changes later.changes tables in
    record {
      leads = rw whole (LeadsTo-append schema one.changes later.changes tables (after_changes schema one.changes tables) (after_changes schema later.changes (after_changes schema one.changes tables)) first.leads rest.leads);
      differ = each_append (λ (change : Change). change.before ≢ change.after) one.changes later.changes first.differ rest.differ;
      checked = each_append (IsChecked schema) one.changes later.changes first.checked rest.checked;
      are = rw whole rest.are;
      counters = rest.counters;
    }

module _ (schema : Schema) (origin : SiteName) (shape : HasShape schema) (keys : HasKeys schema) (apart : KeysStandAlone schema) where
  -- a change, where the row changed, leads to the tables with it made
  pub IsApplied-changes_between : (table : ℕ) (before after : Option Cells) (tables : List Rows) (numbers : Numbers) → AreTables schema tables → AreCounters schema numbers
      → IsChange schema (record { table = table; before = before; after = after }) tables
      → (before ≢ after → IsChecked schema (record { table = table; before = before; after = after }))
      → IsApplied schema tables (record { changes = changes_between table before after; numbers = numbers })
  IsApplied-changes_between table before after tables numbers are counters allowed checked = go (is_unchanged before after) refl
    where
      change : Change
      change = record { table = table; before = before; after = after }

      go : (b : Bool) → is_unchanged before after ≡ b → IsApplied schema tables (record { changes = cond b [] (change ∷ []); numbers = numbers })
      go true same = IsApplied-none schema tables numbers are counters
      go false other = let differ = not_from_Decides (is_unchanged before after) (is_unchanged-Decides before after) other in record {
        leads = (allowed, refl);
        differ = (differ, tt);
        checked = (checked differ, tt);
        are = AreTables-made schema change tables are allowed;
        counters = counters;
      }

  -- a call that succeeds leads by its changes from the tables before it to those after it
  pub IsApplied-call_effect : (call : Call) (tables : List Rows) (numbers : Numbers) (effect : Effect) → AreTables schema tables → AreCounters schema numbers → CallFits schema call
      → call_effect schema tables numbers origin call ≡ Ok effect → IsApplied schema tables effect
  IsApplied-call_effect call tables numbers effect are counters fits gives =
      let some = result_then-Ok (row_effect schema tables numbers origin call (row_named schema tables call))
      (λ (x : RowEffect). Ok (record { changes = changes_between (table_of call) (row_named schema tables call) x.after; numbers = x.numbers })) effect gives in
      let is : record { changes = changes_between (table_of call) (row_named schema tables call) some.0.after; numbers = some.0.numbers } ≡ effect = cc (some.2) in
      subst (IsApplied schema tables) is
      (IsApplied-changes_between (table_of call) (row_named schema tables call) some.0.after tables some.0.numbers are
      (AreCounters-row_effect schema tables numbers origin counters call (row_named schema tables call) some.0 some.1)
      (IsChange-row_effect schema tables numbers origin counters shape keys are apart call (row_named schema tables call) some.0 fits refl some.1)
      (IsChecked-row_effect schema tables numbers origin counters call (row_named schema tables call) some.0 some.1))

  -- calls that succeed lead by their changes from the tables before them to those after them
  pub IsApplied-calls_effect : (number : ℕ) (calls : List Call) (tables : List Rows) (numbers : Numbers) (effect : Effect) → AreTables schema tables → AreCounters schema numbers
      → AllByRecursion (CallFits schema) calls → calls_effect schema origin number calls tables numbers ≡ Ok effect → IsApplied schema tables effect
  IsApplied-calls_effect number [] tables numbers effect are counters fit gives =
      let is : record { changes = []; numbers = numbers } ≡ effect = cc in
      subst (IsApplied schema tables) is (IsApplied-none schema tables numbers are counters)
  IsApplied-calls_effect number (call ∷ calls) tables numbers effect are counters fit gives =
      let some = result_then-Ok (failing_at number (call_effect schema tables numbers origin call))
      (λ (x : Effect). effect_behind x.changes (calls_effect schema origin (number + 1) calls (after_changes schema x.changes tables) x.numbers)) effect gives in
      let one : Effect = some.0 in
      let first = IsApplied-call_effect call tables numbers one are counters fit.0 (failing_at-Ok number (call_effect schema tables numbers origin call) one some.1) in
      let rest = effect_behind-Ok one.changes (calls_effect schema origin (number + 1) calls (after_changes schema one.changes tables) one.numbers) effect some.2 in
      subst (IsApplied schema tables) rest.2
      (IsApplied-then schema tables one rest.0 first
      (IsApplied-calls_effect (number + 1) calls (after_changes schema one.changes tables) one.numbers rest.0 first.are first.counters fit.1 rest.1))

-- a transaction that succeeds leads by its changes from the tables before it to those after it
pub IsApplied-txn_effect : (schema : Schema) (origin : SiteName) (txn : Txn) (tables : List Rows) (numbers : Numbers) (effect : Effect)
    → CanApply schema tables numbers txn → txn_effect schema origin txn tables numbers ≡ Ok effect → IsApplied schema tables effect
IsApplied-txn_effect schema origin txn tables numbers effect can gives =
    IsApplied-calls_effect schema origin can.shape can.keys can.apart 1 txn.calls tables numbers effect can.are can.counters can.fits.calls gives
