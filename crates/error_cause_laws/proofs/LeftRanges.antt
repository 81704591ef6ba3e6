-- A number that leaves its range at a call on a convergent table is a sum: the first number, with all that was applied.
use Rattle.std.proofs.Common.{◌≡◌, ℕ, true, List, ◌++◌, take, Some, None, Err, refl, sym, ap, ◌∙◌, subst}
use Rattle.std.specs.Prelude.{ℤ, Option, ◌+ℤ◌, ◌-◌, false, slice_get}
use Rattle.std.specs.Option.{option_map}
use Rattle.rep_values.specs.declared.name.SiteName.{SiteName}
use Rattle.rep_values.specs.declared.refusal.ApplyError.TheVariants as error
use Rattle.rep_schema.specs.declared.schema.Schema.{Schema}
use Rattle.rep_schema.specs.Tables.{Cells, Rows, columns_of, find_row, rows_of, AreTables}
use Rattle.rep_schema.specs.Fitting.{is_in_range}
use Rattle.rep_schema.specs.Groups.{group_columns_of, values_at}
use Rattle.rep_schema.specs.Putting.{after_changes}
use Rattle.schema_rules.specs.declared.forms.Form.TheVariants as form
use Rattle.rep_calls.specs.declared.call.Call.{Call}
use Rattle.rep_calls.specs.declared.call.Part.{Part}
use Rattle.rep_calls.specs.declared.call.Txn.{Txn}
use Rattle.conflict_detect.specs.Fits.{table_of}
use Rattle.resolve_methods.specs.SequenceLaws.{one_group_number, move_of}
use Rattle.txn_effects.specs.Calls.{row_named}
use Rattle.conflict_detect.specs.KeysNamed.{key_named}
use Rattle.txn_effects.specs.Transactions.{Failure}
use Rattle.txn_effects.specs.Contents.{effect_on}
use Rattle.txn_effects.specs.Convergent.{is_convergent}
use Rattle.rep_laws.specs.Commuting.{IsSound}
use Rattle.site_state.specs.declared.entry.Entry.{Entry}
use Rattle.site_state.specs.Contents.{journal_content}
use Rattle.convergence_laws.specs.Faults.{LeavesRange, Tells}
use Rattle.convergence_laws.specs.Joins.{parts_in, inserts_in, applied_parts, applied_inserts, first_row}
use Rattle.convergence_laws.specs.Journals.{IsSoundTxn, AreMade}
use Rattle.convergence_laws.proofs.Faults.{convergent_calls_fail_so}
use Rattle.convergence_laws.proofs.Moves.{DecisionLaws}
use Rattle.convergence_laws.proofs.Winners.{moved_by, IsJoin-moved_by}
use Rattle.error_cause_laws.specs.Excuses.{SumLeavesRange, RangeIsLeftBySum}
use Rattle.error_cause_laws.proofs.Failing.{calls_before, call_there, call_found}
use Rattle.error_cause_laws.proofs.MissingRows.{Fails, fails_here, comes_so_far}

module _ (schema : Schema) (sound : IsSound schema) (decides : DecisionLaws) (site : SiteName) (base : List Rows) (journal : List Entry) (are : AreTables schema base) (made : AreMade schema site base journal)
    (origin : SiteName) (txn : Txn) (txn_sound : IsSoundTxn schema txn) (failure : Failure) where
  abbrev tables : List Rows
  tables = (journal_content schema site base journal).tables

  abbrev FailsHere : Type 0
  FailsHere = Fails schema sound decides site base journal are made origin txn txn_sound failure

  module _ (f : FailsHere) (convergent : is_convergent schema (table_of f.call) ≡ true) where
    -- the row that the call names, behind the calls before it
    abbrev before : Option Cells
    before = row_named schema (after_changes schema f.effect.changes tables) f.call

    -- it comes of the first row by all that was applied, and so does its number
    module _ (left : LeavesRange schema f.call before) where
      abbrev places : List ℕ
      places = group_columns_of schema (table_of f.call) left.part.group

      abbrev base_row : Option Cells
      base_row = find_row (columns_of schema (table_of f.call)) (key_named schema f.call) (rows_of base (table_of f.call))

      abbrev inserts : List Cells
      inserts = applied_inserts schema (table_of f.call) (key_named schema f.call) journal ++ inserts_in schema (table_of f.call) (key_named schema f.call) f.done

      abbrev parts : List Part
      parts = applied_parts (table_of f.call) (key_named schema f.call) left.part.group journal ++ parts_in (table_of f.call) (key_named schema f.call) left.part.group f.done

      sum_leaves : SumLeavesRange schema base journal f.done f.call
      sum_leaves = go (first_row base_row inserts) refl (ap (option_map (values_at places)) (sym left.there)
          ∙ (comes_so_far schema sound decides site base journal are made origin txn txn_sound failure f (table_of f.call) left.part.group convergent (key_named schema f.call)).value form.Sum left.sum)
        where
          go : (o : Option Cells) → first_row base_row inserts ≡ o → option_map (values_at places) (Some left.row) ≡ option_map (λ row. moved_by schema places form.Sum (values_at places row) parts) o
              → SumLeavesRange schema base journal f.done f.call
          go None begins came = cc
          go (Some first) begins came =
              let moved : values_at places left.row ≡ moved_by schema places form.Sum (values_at places first) parts = cc in
              record {
                part = left.part;
                among = left.among;
                sum = left.sum;
                first = first;
                begins = begins;
                leaves = subst (λ (z : ℤ). is_in_range (z +ℤ move_of left.part) ≡ false) (ap one_group_number moved ∙ IsJoin-moved_by schema places form.Sum (values_at places first) parts) left.leaves;
              }

    left_by_sum : failure.error ≡ error.ValueRange → SumLeavesRange schema base journal (take (failure.call - 1) txn.calls) f.call
    left_by_sum range =
        let told = convergent_calls_fail_so decides schema (after_changes schema f.effect.changes tables) f.effect.numbers origin f.call failure.error sound f.are f.fits f.keeps convergent f.fails in
        subst (λ (calls : List Call). SumLeavesRange schema base journal calls f.call)
        (sym (calls_before schema origin txn.calls tables (journal_content schema site base journal).numbers failure f)) (sum_leaves (subst (Tells schema f.call before) range told))

  -- the call that fails is there
  pub fails_there : effect_on schema origin txn (journal_content schema site base journal) ≡ Err failure → (call : Call) × (slice_get txn.calls (failure.call - 1) ≡ Some call)
  fails_there gives =
      let f = fails_here schema sound decides site base journal are made origin txn txn_sound failure gives in
      (f.call, call_there schema origin txn.calls tables (journal_content schema site base journal).numbers failure f)

  pub range_left_here : effect_on schema origin txn (journal_content schema site base journal) ≡ Err failure → RangeIsLeftBySum schema base journal failure.call failure.error txn
  range_left_here gives range call found convergent =
      let f = fails_here schema sound decides site base journal are made origin txn txn_sound failure gives in
      let same : f.call ≡ call = call_found schema origin txn.calls tables (journal_content schema site base journal).numbers failure call f found in
      let here : is_convergent schema (table_of f.call) ≡ true = subst (λ (c : Call). is_convergent schema (table_of c) ≡ true) (sym same) convergent in
      subst (SumLeavesRange schema base journal (take (failure.call - 1) txn.calls)) same (left_by_sum f here range)
