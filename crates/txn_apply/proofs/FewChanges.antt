-- A transaction changes no more rows than it has calls.
use Rattle.std.proofs.Common.{◌≡◌, ℕ, ◌+◌, ◌≤◌, List, [], ◌∷◌, length, Bool, true, false, cond, Ok, Err, arith, subst, refl}
use Rattle.std.specs.Prelude.{◌++◌, Option, Result}
use Rattle.std.proofs.lemmas.List.{length-append}
use Rattle.rep_values.specs.declared.name.SiteName.{SiteName}
use Rattle.rep_values.specs.declared.refusal.ApplyError.{ApplyError}
use Rattle.rep_schema.specs.declared.schema.Schema.{Schema}
use Rattle.rep_schema.specs.declared.change.Change.{Change}
use Rattle.rep_schema.specs.Tables.{Cells, Rows}
use Rattle.rep_schema.specs.Putting.{after_changes, is_unchanged, changes_between}
use Rattle.rep_calls.specs.declared.call.Call.{Call}
use Rattle.unique_resolve.specs.Numbers.{Numbers}
use Rattle.conflict_detect.specs.Fits.{table_of}
use Rattle.txn_effects.specs.Calls.{RowEffect, row_named, row_effect, Effect, call_effect}
use Rattle.txn_effects.specs.Transactions.{Failure, failing_at, effect_behind, calls_effect}
use Rattle.txn_effects.proofs.Results.{result_then-Ok}

one_at_most : (table : ℕ) (before after : Option Cells) → length (changes_between table before after) ≤ 1
one_at_most table before after = go (is_unchanged before after)
  where
    change : Change
    change = record { table = table; before = before; after = after }

    go : (b : Bool) → length (cond b [] (change ∷ [])) ≤ 1
    go true = omega arith
    go false = omega arith

-- a call that succeeds changes one row at most
few-call_effect : (schema : Schema) (origin : SiteName) (number : ℕ) (call : Call) (tables : List Rows) (numbers : Numbers) (one : Effect)
    → failing_at number (call_effect schema tables numbers origin call) ≡ Ok one → length one.changes ≤ 1
few-call_effect schema origin number call tables numbers one gives =
    let some = result_then-Ok (row_effect schema tables numbers origin call (row_named schema tables call))
    (λ (x : RowEffect). Ok (record { changes = changes_between (table_of call) (row_named schema tables call) x.after; numbers = x.numbers })) one (succeeds (call_effect schema tables numbers origin call) gives) in
    let is : record { changes = changes_between (table_of call) (row_named schema tables call) some.0.after; numbers = some.0.numbers } ≡ one = cc (some.2) in
    subst (λ (e : Effect). length e.changes ≤ 1) is (one_at_most (table_of call) (row_named schema tables call) some.0.after)
  where
    succeeds : (r : Result Effect ApplyError) → failing_at number r ≡ Ok one → r ≡ Ok one
    succeeds (Ok effect) is = cc is
    succeeds (Err error) is = absurd (cc is)

-- what is behind earlier changes and succeeds has them and its own
more_changes : (changes : List Change) (r : Result Effect Failure) (effect : Effect) → effect_behind changes r ≡ Ok effect → (n : ℕ) → ((later : Effect) → r ≡ Ok later → length later.changes ≤ n) → length effect.changes ≤ length changes + n
more_changes changes (Ok later) effect is n few =
    let same : record { changes = changes ++ later.changes; numbers = later.numbers } ≡ effect = cc is in
    subst (λ (e : Effect). length e.changes ≤ length changes + n) same (omega (arith, few later refl, length-append changes later.changes))
more_changes changes (Err failure) effect is n few = absurd (cc is)

pub few_changes : (schema : Schema) (origin : SiteName) (number : ℕ) (calls : List Call) (tables : List Rows) (numbers : Numbers) (effect : Effect)
    → calls_effect schema origin number calls tables numbers ≡ Ok effect → length effect.changes ≤ length calls
few_changes schema origin number [] tables numbers effect gives =
    let is : record { changes = []; numbers = numbers } ≡ effect = cc in
    subst (λ (e : Effect). length e.changes ≤ 0) is (omega arith)
few_changes schema origin number (call ∷ calls) tables numbers effect gives =
    let some = result_then-Ok (failing_at number (call_effect schema tables numbers origin call))
    (λ (x : Effect). effect_behind x.changes (calls_effect schema origin (number + 1) calls (after_changes schema x.changes tables) x.numbers)) effect gives in
    let one : Effect = some.0 in
    let own = few-call_effect schema origin number call tables numbers one some.1 in
    let all = more_changes one.changes (calls_effect schema origin (number + 1) calls (after_changes schema one.changes tables) one.numbers) effect some.2 (length calls)
    (λ later. few_changes schema origin (number + 1) calls (after_changes schema one.changes tables) one.numbers later) in
    omega (arith, own, all)
