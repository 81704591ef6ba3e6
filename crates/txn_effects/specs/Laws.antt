-- Laws of transactions.
use Rattle.rep_schema.specs.declared.change.Change.{Change}
use Rattle.conflict_detect.specs.ChangeCalls.{call_of}
use Rattle.std.specs.Prelude.{map, ◌≡◌, ◌≢◌, List, None, IfSome, Ok}
use Rattle.std.specs.List.{AllByRecursion}
use Rattle.rep_values.specs.declared.name.SiteName.{SiteName}
use Rattle.rep_schema.specs.declared.schema.Schema.{Schema}
use Rattle.rep_schema.specs.Shape.{HasShape}
use Rattle.rep_schema.specs.Tables.{Rows, AreTables}
use Rattle.rep_schema.specs.Changes.{LeadsTo}
use Rattle.rep_schema.specs.Checks.{failed_check}
use Rattle.rep_calls.specs.declared.call.Txn.{Txn}
use Rattle.conflict_detect.specs.Fits.{TxnFits}
use Rattle.unique_resolve.specs.Numbers.{Numbers, AreCounters}
use Rattle.txn_effects.specs.Calls.{KeysStandAlone, Effect}
use Rattle.conflict_detect.specs.KeysNamed.{HasKeys}
use Rattle.rep_schema.specs.Putting.{after_changes}
use Rattle.txn_effects.specs.Transactions.{txn_effect}

-- a schema with shape and keys, which are in no group, its tables, its counters, and a transaction that fits it
pub record CanApply (schema : Schema) (tables : List Rows) (numbers : Numbers) (txn : Txn) : Type 0 where
  pub shape : HasShape schema
  pub keys : HasKeys schema
  pub apart : KeysStandAlone schema
  pub are : AreTables schema tables
  pub counters : AreCounters schema numbers
  pub fits : TxnFits schema txn

-- the row after a change, if there is one, meets the checks of its table
abbrev pub IsChecked : Schema → Change → Type 0
IsChecked schema change = IfSome change.after (λ row. failed_check schema change.table row ≡ None)

-- what a transaction that succeeds leaves: its changes lead to the tables after it, each of them changed a row, which
-- meets the checks, and there is still a counter for each constraint
pub record IsApplied (schema : Schema) (tables : List Rows) (effect : Effect) : Type 0 where
  pub leads : LeadsTo schema effect.changes tables (after_changes schema effect.changes tables)
  pub differ : AllByRecursion (λ change. change.before ≢ change.after) effect.changes
  pub checked : AllByRecursion (IsChecked schema) effect.changes
  pub are : AreTables schema (after_changes schema effect.changes tables)
  pub counters : AreCounters schema effect.numbers

abbrev pub TransactionsLeadToTheirTables : Type 0
TransactionsLeadToTheirTables = (schema : Schema) (origin : SiteName) (txn : Txn) (tables : List Rows) (numbers : Numbers) (effect : Effect)
    → CanApply schema tables numbers txn → txn_effect schema origin txn tables numbers ≡ Ok effect → IsApplied schema tables effect

-- changes that lead from tables of a schema to others, each of which changed a row, to one that meets the checks
pub record HaveChanged (schema : Schema) (changes : List Change) (tables later : List Rows) : Type 0 where
  pub are : AreTables schema tables
  pub lead : LeadsTo schema changes tables later
  pub differ : AllByRecursion (λ change. change.before ≢ change.after) changes
  pub checked : AllByRecursion (IsChecked schema) changes

-- the calls of such changes, applied to the tables before as a transaction from anywhere, make these changes and move no counter
abbrev pub CallsOfChangesMakeThem : Type 0
CallsOfChangesMakeThem = (schema : Schema) (changes : List Change) (tables later : List Rows) → HasShape schema → HaveChanged schema changes tables later
    → (origin : SiteName) (numbers : Numbers)
    → txn_effect schema origin (record { calls = map (call_of schema) changes }) tables numbers ≡ Ok (record { changes = changes; numbers = numbers })
