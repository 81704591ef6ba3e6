-- Where a transaction fails: the calls before the one that fails succeeded, and so did the journal behind them.
use Rattle.std.proofs.Common.{◌≡◌, ℕ, suc, ◌+◌, ◌-◌, List, [], ◌∷◌, ◌++◌, length, take, Some, Ok, Err, refl, sym, ap, ◌∙◌, subst, arith}
use Rattle.std.specs.Prelude.{Result, slice_get}
use Rattle.std.specs.List.{AllByRecursion}
use Rattle.std.proofs.lemmas.List.{take_at}
use Rattle.rep_values.specs.declared.name.SiteName.{SiteName}
use Rattle.rep_values.specs.declared.refusal.ApplyError.{ApplyError}
use Rattle.rep_schema.specs.declared.schema.Schema.{Schema}
use Rattle.rep_schema.specs.declared.change.Change.{Change}
use Rattle.rep_schema.specs.Tables.{Rows, AreTables}
use Rattle.rep_schema.specs.Putting.{after_changes}
use Rattle.rep_schema.proofs.Making.{after_changes-append}
use Rattle.rep_calls.specs.declared.call.Call.{Call}
use Rattle.conflict_detect.specs.Fits.{CallFits}
use Rattle.unique_resolve.specs.Numbers.{Numbers, AreCounters}
use Rattle.txn_effects.specs.Parts.{result_then}
use Rattle.txn_effects.specs.Calls.{Effect, call_effect}
use Rattle.txn_effects.specs.Transactions.{Failure, failing_at, effect_behind, calls_effect}
use Rattle.txn_effects.proofs.TransactionEffects.{IsApplied-call_effect}
use Rattle.rep_laws.specs.Commuting.{IsSound}
use Rattle.rep_laws.proofs.SoundSchemas.{HasKeys-sound, KeysStandAlone-sound}
use Rattle.rep_laws.specs.GroupForms.{KeepsForms}

-- the calls before the one that fails, what they did, and that it fails then
pub record FailsBehind (schema : Schema) (origin : SiteName) (number : ℕ) (calls : List Call) (tables : List Rows) (numbers : Numbers) (failure : Failure) : Type 0 where
  pub done : List Call
  pub call : Call
  pub rest : List Call
  pub whole : calls ≡ done ++ call ∷ rest
  pub counted : failure.call ≡ number + length done
  pub effect : Effect
  pub succeeds : calls_effect schema origin number done tables numbers ≡ Ok effect
  pub fails : call_effect schema (after_changes schema effect.changes tables) effect.numbers origin call ≡ Err failure.error
  pub done_fit : AllByRecursion (CallFits schema) done
  pub done_keep : AllByRecursion (KeepsForms schema) done
  pub fits : CallFits schema call
  pub keeps : KeepsForms schema call
  pub are : AreTables schema (after_changes schema effect.changes tables)
  pub counters : AreCounters schema effect.numbers

-- a list up to an element, at whose place it is found
pub found_behind : {X : Type 0} (done : List X) (x : X) (rest : List X) → slice_get (done ++ x ∷ rest) (length done) ≡ Some x
found_behind [] x rest = refl
found_behind (y ∷ done) x rest = found_behind done x rest

behind-Err : (changes : List Change) (result : Result Effect Failure) (failure : Failure) → effect_behind changes result ≡ Err failure → result ≡ Err failure
behind-Err changes (Ok effect) failure e = cc
behind-Err changes (Err one) failure e = let same : one ≡ failure = cc in ap (λ f. Err f) same

module _ (schema : Schema) (sound : IsSound schema) (origin : SiteName) where
  -- a transaction that fails does so behind calls that succeed
  pub fails_behind : (number : ℕ) (calls : List Call) (tables : List Rows) (numbers : Numbers) (failure : Failure) → AreTables schema tables → AreCounters schema numbers
      → AllByRecursion (CallFits schema) calls → AllByRecursion (KeepsForms schema) calls → calls_effect schema origin number calls tables numbers ≡ Err failure
      → FailsBehind schema origin number calls tables numbers failure
  fails_behind number [] tables numbers failure are counters fit keep gives = cc
  fails_behind number (call ∷ calls) tables numbers failure are counters fit keep gives =
      go (call_effect schema tables numbers origin call) refl gives (λ tables numbers are counters later. fails_behind (number + 1) calls tables numbers failure are counters fit.1 keep.1 later)
    where
      go : (r : Result Effect ApplyError) → call_effect schema tables numbers origin call ≡ r
          → result_then (failing_at number r) (λ (x : Effect). effect_behind x.changes (calls_effect schema origin (number + 1) calls (after_changes schema x.changes tables) x.numbers)) ≡ Err failure
          → ((tables : List Rows) (numbers : Numbers) → AreTables schema tables → AreCounters schema numbers → calls_effect schema origin (number + 1) calls tables numbers ≡ Err failure
          → FailsBehind schema origin (number + 1) calls tables numbers failure)
          → FailsBehind schema origin number (call ∷ calls) tables numbers failure
      go (Err why) is e later =
          let same : record { call = number; error = why } ≡ failure = cc in
          record {
            done = [];
            call = call;
            rest = calls;
            whole = refl;
            counted = sym (ap (λ (f : Failure). f.call) same) ∙ zero_more number;
            effect = record { changes = []; numbers = numbers };
            succeeds = refl;
            fails = is ∙ ap (λ (f : Failure). Err f.error) same;
            done_fit = tt;
            done_keep = tt;
            fits = fit.0;
            keeps = keep.0;
            are = are;
            counters = counters;
          }
        where
          zero_more : (n : ℕ) → n ≡ n + 0
          zero_more n = omega arith
      go (Ok one) is e later =
          let applied = IsApplied-call_effect schema origin sound.shape (HasKeys-sound schema sound.unbroken sound.shape) (KeysStandAlone-sound schema sound.unbroken) call tables numbers one are counters fit.0 is in
          let rest = later (after_changes schema one.changes tables) one.numbers applied.are applied.counters
          (behind-Err one.changes (calls_effect schema origin (number + 1) calls (after_changes schema one.changes tables) one.numbers) failure e) in
          let together : after_changes schema (one.changes ++ rest.effect.changes) tables ≡ after_changes schema rest.effect.changes (after_changes schema one.changes tables) =
          after_changes-append schema one.changes rest.effect.changes tables in
          record {
            done = call ∷ rest.done;
            call = rest.call;
            rest = rest.rest;
            whole = ap (λ cs. call ∷ cs) rest.whole;
            counted = rest.counted ∙ one_more number (length rest.done);
            effect = record { changes = one.changes ++ rest.effect.changes; numbers = rest.effect.numbers };
            succeeds = (rw (is, rest.succeeds) refl);
            fails = subst (λ (ts : List Rows). call_effect schema ts rest.effect.numbers origin rest.call ≡ Err failure.error) (sym together) rest.fails;
            done_fit = (fit.0, rest.done_fit);
            done_keep = (keep.0, rest.done_keep);
            fits = rest.fits;
            keeps = rest.keeps;
            are = subst (AreTables schema) (sym together) rest.are;
            counters = rest.counters;
          }
        where
          one_more : (n m : ℕ) → n + 1 + m ≡ n + suc m
          one_more n m = omega arith

module _ (schema : Schema) (origin : SiteName) (calls : List Call) (tables : List Rows) (numbers : Numbers) (failure : Failure) where
  -- the place of the call that fails is behind the calls before it
  place_is : (f : FailsBehind schema origin 1 calls tables numbers failure) → failure.call - 1 ≡ length f.done
  place_is f = rw f.counted (from_one (length f.done))
    where
      from_one : (n : ℕ) → 1 + n - 1 ≡ n
      from_one n = omega arith

  -- these are the ones in front of its place
  pub calls_before : (f : FailsBehind schema origin 1 calls tables numbers failure) → take (failure.call - 1) calls ≡ f.done
  calls_before f = ap (take (failure.call - 1)) f.whole ∙ take_at f.done (f.call ∷ f.rest) (failure.call - 1) (sym (place_is f))

  -- it is there
  pub call_there : (f : FailsBehind schema origin 1 calls tables numbers failure) → slice_get calls (failure.call - 1) ≡ Some f.call
  call_there f = ap (slice_get calls) (place_is f) ∙ ap (λ cs. slice_get cs (length f.done)) f.whole ∙ found_behind f.done f.call f.rest

  -- and it is the one of its number
  pub call_found : (call : Call) (f : FailsBehind schema origin 1 calls tables numbers failure) → slice_get calls (failure.call - 1) ≡ Some call → f.call ≡ call
  call_found call f found = let both : Some f.call ≡ Some call = sym (call_there f) ∙ found in cc
