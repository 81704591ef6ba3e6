-- How an answer that isn't success stands beside what a call or a transaction does.
use Rattle.std.specs.Prelude.{◌≡◌, ℕ, List, Result, Ok, Err}
use Rattle.rep_values.specs.declared.refusal.ApplyError.{ApplyError}
use Rattle.rep_schema.specs.declared.schema.Schema.{Schema}
use Rattle.rep_schema.specs.Shape.{HasShape}
use Rattle.rep_schema.specs.Tables.{Rows, AreTables}
use Rattle.rep_calls.specs.declared.call.Call.{Call}
use Rattle.conflict_detect.specs.Fits.{CallFits}
use Rattle.unique_resolve.specs.Numbers.{Numbers, AreCounters}
use Rattle.rep_schema.specs.declared.change.Change.{Change}
use Rattle.txn_effects.specs.Calls.{KeysStandAlone, Effect}
use Rattle.conflict_detect.specs.KeysNamed.{HasKeys}
use Rattle.txn_effects.specs.Transactions.{Failure}
use Rattle.txn_apply.specs.declared.stop.ApplyStop.{ApplyStop}
use Rattle.txn_apply.specs.declared.stop.ApplyStop.TheVariants.{Failed, Memory}
use Rattle.txn_apply.specs.declared.stop.CallStop.{CallStop}
use Rattle.txn_apply.specs.declared.stop.CallStop.TheVariants as of_call

-- with the error that there is; want of memory needs no cause
abbrev pub CallStopsAs : {A : Type 0} → Result A ApplyError → CallStop → Type 0
CallStopsAs outcome (of_call.Failed error) = outcome ≡ Err error
CallStopsAs outcome of_call.Memory = Unit {0}

-- with the call that fails and its error; want of memory needs no cause
abbrev pub StopsAs : Result Effect Failure → ApplyStop → Type 0
StopsAs outcome (Failed call error) = outcome ≡ Err (record { call = call; error = error })
StopsAs outcome Memory = Unit {0}

abbrev pub stop_of : ℕ → CallStop → ApplyStop
stop_of number (of_call.Failed error) = Failed number error
stop_of number of_call.Memory = Memory

-- a call makes these changes and leaves these counters
abbrev pub CallsAs : Result Effect ApplyError → List Change → Numbers → Type 0
CallsAs outcome changes numbers = outcome ≡ Ok (record { changes = changes; numbers = numbers })

-- a call can be applied to tables and counters of a schema
pub record CanCall (schema : Schema) (tables : List Rows) (numbers : Numbers) (call : Call) : Type 0 where
  pub shape : HasShape schema
  pub keys : HasKeys schema
  pub apart : KeysStandAlone schema
  pub are : AreTables schema tables
  pub counters : AreCounters schema numbers
  pub fits : CallFits schema call
