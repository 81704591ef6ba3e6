-- One call after another.
use Rattle.std.proofs.Common.{◌≡◌, ◌≢◌, ℕ, ◌<◌, ◌≤◌, Bool, true, false, cond, Some, None, refl, List, ◌++◌, length, get_or, Ok, sym, ap, ◌∙◌, subst, inl, inr, arith}
use Rattle.std.specs.List.{AllByRecursion}
use Rattle.std.proofs.lemmas.Bool.{cases_eq}
use Rattle.rep_lists.proofs.Each.{each_at}
use Rattle.rep_values.specs.declared.name.SiteName.{SiteName}
use Rattle.rep_schema.specs.declared.schema.Schema.{Schema}
use Rattle.rep_schema.specs.declared.change.Change.{Change}
use Rattle.rep_schema.specs.Shape.{HasShape}
use Rattle.rep_schema.specs.Tables.{Rows, AreTables}
use Rattle.rep_schema.specs.Changes.{room_for}
use Rattle.rep_schema.proofs.Leading.{room_for-append}
use Rattle.rep_calls.specs.declared.call.Call.{Call}
use Rattle.conflict_detect.specs.Fits.{table_of, CallFits}
use Rattle.unique_resolve.specs.Numbers.{Numbers, has_sequences, kept_numbers, put_back}
use Rattle.txn_effects.specs.Calls.{KeysStandAlone, Effect, call_effect}
use Rattle.conflict_detect.specs.KeysNamed.{HasKeys}
use Rattle.rep_schema.specs.Putting.{after_changes}
use Rattle.txn_effects.specs.Laws.{IsApplied}
use Rattle.rep_schema.proofs.Making.{after_changes-append, room_for-length}
use Rattle.txn_effects.proofs.TransactionEffects.{IsApplied-then, IsApplied-call_effect}
use Rattle.txn_effects.proofs.RoomForChanges.{room_for-call_effect_elsewhere}

-- there is room for the changes so far and those of one more call, where its table has room for all
pub room_for-more : (schema : Schema) (tables : List Rows) (numbers : Numbers) (origin : SiteName) (call : Call) (one : Effect) (t : ℕ) (done : List Change) (spare spare' rows : ℕ)
    → call_effect schema tables numbers origin call ≡ Ok one → room_for t done ≤ spare → (t ≢ table_of call → spare ≤ spare') → (t ≡ table_of call → rows ≤ spare')
    → length (done ++ one.changes) ≤ rows → room_for t (done ++ one.changes) ≤ spare'
room_for-more schema tables numbers origin call one t done spare spare' rows gives so_far others here few = elim (cases_eq t (table_of call)) [
  | inl e ↦ omega (arith, here e, room_for-length t (done ++ one.changes), few)
  | inr ne ↦
      let none : room_for t one.changes ≡ 0 = room_for-call_effect_elsewhere schema tables numbers origin call one gives t (λ e. ne (sym e)) in
      let sum = room_for-append t done one.changes in
      omega (arith, others ne, so_far, none, sum)
]

-- counters that were kept come back, and so do those that nothing moved
pub put_back-kept : (schema : Schema) (before now : Numbers) → (has_sequences schema ≡ false → now ≡ before) → put_back (kept_numbers schema before) now ≡ before
put_back-kept schema before now still = go (has_sequences schema) still
  where
    go : (b : Bool) → (b ≡ false → now ≡ before) → put_back (cond b (Some before) None) now ≡ before
    go true same = refl
    go false same = same refl

module _ (schema : Schema) (origin : SiteName) (shape : HasShape schema) (keys : HasKeys schema) (apart : KeysStandAlone schema) (calls : List Call) (fit : AllByRecursion (CallFits schema) calls)
    (before now : List Rows) (numbers : Numbers) (done : List Change) (i : ℕ) (call : Call) (below : i < length calls) (is : call ≡ get_or calls i call)
    (at : now ≡ after_changes schema done before) (applied : IsApplied schema before (record { changes = done; numbers = numbers })) where
  -- the call fits
  pub CallFits-here : CallFits schema call
  CallFits-here = subst (CallFits schema) (sym is) (each_at (CallFits schema) calls i call below fit)

  -- the tables so far are the schema's
  pub AreTables-now : AreTables schema now
  AreTables-now = subst (AreTables schema) (sym at) applied.are

  -- a call that succeeds is applied behind those before it
  pub IsApplied-more : (one : Effect) → call_effect schema now numbers origin call ≡ Ok one → IsApplied schema before (record { changes = done ++ one.changes; numbers = one.numbers })
  IsApplied-more one gives =
      let first : IsApplied schema now one = IsApplied-call_effect schema origin shape keys apart call now numbers one AreTables-now applied.counters CallFits-here gives in
      IsApplied-then schema before (record { changes = done; numbers = numbers }) one applied (subst (λ (ts : List Rows). IsApplied schema ts one) at first)

  pub made_all-more : (changes : List Change) → after_changes schema changes now ≡ after_changes schema (done ++ changes) before
  made_all-more changes = ap (after_changes schema changes) at ∙ sym (after_changes-append schema done changes before)
