-- How an answer that isn't success stands beside what calls do.
use Rattle.std.specs.Prelude.{◌≡◌, ℕ, Result, Err}
use Rattle.rep_values.specs.declared.refusal.ApplyError.{ApplyError}
use Rattle.rep_values.specs.declared.refusal.Refusal.{Refusal}
use Rattle.rep_values.specs.declared.refusal.Refusal.TheVariants as refusal
use Rattle.txn_effects.specs.Transactions.{Failure}
use Rattle.proc_calls.specs.declared.stop.ProcStop.{ProcStop}
use Rattle.proc_calls.specs.declared.stop.ProcStop.TheVariants.{Failed, Memory}
use Rattle.proc_calls.specs.declared.stop.CallStop.{CallStop}
use Rattle.proc_calls.specs.declared.stop.CallStop.TheVariants as of_call

-- with the error that there is; want of memory needs no cause
abbrev pub CallStopsAs : {A : Type 0} → Result A ApplyError → CallStop → Type 0
CallStopsAs outcome (of_call.Failed error) = outcome ≡ Err error
CallStopsAs outcome of_call.Memory = Unit {0}

-- with the call that fails and its error; want of memory needs no cause
abbrev pub StopsAs : {A : Type 0} → Result A Failure → ProcStop → Type 0
StopsAs outcome (Failed call error) = outcome ≡ Err (record { call = call; error = error })
StopsAs outcome Memory = Unit {0}

abbrev pub stop_of : ℕ → CallStop → ProcStop
stop_of number (of_call.Failed error) = Failed number error
stop_of number of_call.Memory = Memory

-- why an error isn't executed whose calls stop so
abbrev pub execute_stop_refusal : ProcStop → Refusal
execute_stop_refusal (Failed call error) = refusal.StillFails error
execute_stop_refusal Memory = refusal.Memory
