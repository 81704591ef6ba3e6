-- The room that taking one call's changes back wants.
use Rattle.std.proofs.Common.{◌≡◌, ◌≢◌, ℕ, ◌≤◌, List, Ok, subst}
use Rattle.std.specs.Prelude.{Option}
use Rattle.rep_values.specs.declared.name.SiteName.{SiteName}
use Rattle.rep_schema.specs.declared.schema.Schema.{Schema}
use Rattle.rep_schema.specs.Tables.{Cells, Rows}
use Rattle.rep_schema.specs.Changes.{room_for}
use Rattle.rep_calls.specs.declared.call.Call.{Call}
use Rattle.conflict_detect.specs.Fits.{table_of}
use Rattle.unique_resolve.specs.Numbers.{Numbers}
use Rattle.rep_schema.proofs.Making.{room_for-changes_between, room_for-changes_elsewhere}
use Rattle.rep_schema.specs.Putting.{changes_between}
use Rattle.txn_effects.specs.Calls.{row_named, RowEffect, row_effect, Effect, call_effect}
use Rattle.txn_effects.proofs.Results.{result_then-Ok}

module _ (schema : Schema) (tables : List Rows) (numbers : Numbers) (origin : SiteName) (call : Call) (effect : Effect) (gives : call_effect schema tables numbers origin call ≡ Ok effect) where
  -- the changes of a call that succeeds are those of the row that it names
  changes_of-call : (after : Option Cells) × (changes_between (table_of call) (row_named schema tables call) after ≡ effect.changes)
  changes_of-call =
      let some = result_then-Ok (row_effect schema tables numbers origin call (row_named schema tables call))
      (λ (x : RowEffect). Ok (record { changes = changes_between (table_of call) (row_named schema tables call) x.after; numbers = x.numbers })) effect gives in
      (some.0.after, cc (some.2))

  -- taking one call's changes back wants room for one row at most
  pub room_for-call_effect : (t : ℕ) → room_for t effect.changes ≤ 1
  room_for-call_effect t = subst (λ changes. room_for t changes ≤ 1) changes_of-call.1 (room_for-changes_between t (table_of call) (row_named schema tables call) changes_of-call.0)

  -- and for none in another table than the call's
  pub room_for-call_effect_elsewhere : (t : ℕ) → table_of call ≢ t → room_for t effect.changes ≡ 0
  room_for-call_effect_elsewhere t other =
      subst (λ changes. room_for t changes ≡ 0) changes_of-call.1 (room_for-changes_elsewhere t (table_of call) (row_named schema tables call) changes_of-call.0 other)
