-- What was evaluated before can be made, where the transaction does so now.
use Rattle.std.proofs.Common.{◌≡◌, ◌≤◌, List, length, Ok, subst, sym}
use Rattle.std.specs.Prelude.{Result}
use Rattle.rep_values.specs.declared.name.SiteName.{SiteName}
use Rattle.rep_schema.specs.declared.schema.Schema.{Schema}
use Rattle.rep_schema.specs.declared.change.Change.{Change}
use Rattle.rep_schema.specs.Tables.{Rows, AreTables}
use Rattle.rep_calls.specs.declared.call.Txn.{Txn}
use Rattle.conflict_detect.specs.Fits.{TxnFits}
use Rattle.unique_resolve.specs.Numbers.{Numbers, AreCounters}
use Rattle.txn_effects.specs.Calls.{Effect}
use Rattle.txn_effects.specs.Transactions.{Failure, txn_effect}
use Rattle.txn_effects.specs.Laws.{IsApplied}
use Rattle.txn_effects.proofs.TransactionEffects.{IsApplied-txn_effect}
use Rattle.site_state.specs.Contents.{changes_by}
use Rattle.site_state.specs.Fits.{SchemaIsKeyed}
use Rattle.txn_apply.proofs.FewChanges.{few_changes}

module _ (schema : Schema) (origin : SiteName) (txn : Txn) (tables : List Rows) (numbers : Numbers) (changes : List Change) (keyed : SchemaIsKeyed schema) (are : AreTables schema tables) (counters : AreCounters schema numbers)
    (fits : TxnFits schema txn) (gives : txn_effect schema origin txn tables numbers ≡ Ok (record { changes = changes; numbers = numbers })) where
  abbrev effect : Effect
  effect = record { changes = changes; numbers = numbers }

  pub can_be_made : IsApplied schema tables effect
  can_be_made = IsApplied-txn_effect schema origin txn tables numbers effect
      (record { shape = keyed.shape; keys = keyed.keys; apart = keyed.apart; are = are; counters = counters; fits = fits }) gives

  pub few_are_made : length (changes_by (txn_effect schema origin txn tables numbers)) ≤ length txn.calls
  few_are_made = subst (λ (r : Result Effect Failure). length (changes_by r) ≤ length txn.calls) (sym gives)
      (few_changes schema origin 1 txn.calls tables numbers effect gives)
