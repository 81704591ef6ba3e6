-- Calls that are carried: that a packet can hold them, and what they do.
use Rattle.std.specs.Prelude.{ℕ, List, filter_map, Option, Some, None, Result, Ok}
use Rattle.rep_values.specs.declared.refusal.ApplyError.{ApplyError}
use Rattle.rep_schema.specs.declared.schema.Schema.{Schema}
use Rattle.rep_schema.specs.Tables.{Rows}
use Rattle.rep_calls.specs.declared.call.Call.{Call}
use Rattle.rep_calls.specs.declared.call.Txn.{Txn}
use Rattle.packet_code.specs.Limits.{IsPlainCall, IsPlainTxn}
use Rattle.packet_code.specs.Texts.{CallHasTextForm, TxnHasTextForm}
use Rattle.txn_effects.specs.Transactions.{Failure}
use Rattle.proc_state.specs.declared.procedure.Procedure.{Procedure}
use Rattle.proc_state.specs.declared.call.ProcCall.{ProcCall}
use Rattle.proc_state.specs.Calls.{call_after, calls_after}
use Rattle.proc_state.specs.Carriers.{call_in}

-- a call whose texts have the form of one, as they always do, is within the limits of a packet
abbrev pub CallCanBeCarried : Call → Type 0
CallCanBeCarried call = CallHasTextForm call → IsPlainCall call

-- so it is with a transaction
abbrev pub CanBeCarried : Txn → Type 0
CanBeCarried txn = TxnHasTextForm txn → IsPlainTxn txn

abbrev pub read_after : Schema → List Procedure → Option ProcCall → List Rows → Result (List Rows) ApplyError
read_after schema procedures None tables = Ok tables
read_after schema procedures (Some call) tables = call_after schema procedures call tables

-- the tables after a call that was carried; one of no procedure's form changes nothing
abbrev pub carried_after : Schema → List Procedure → Call → List Rows → Result (List Rows) ApplyError
carried_after schema procedures call tables = read_after schema procedures (call_in schema procedures call) tables

-- the tables after calls that were carried, the first of them having a number; or the first call that fails
abbrev pub carried_calls_after : Schema → List Procedure → ℕ → List Call → List Rows → Result (List Rows) Failure
carried_calls_after schema procedures number calls tables = calls_after schema procedures number (filter_map (call_in schema procedures) calls) tables
