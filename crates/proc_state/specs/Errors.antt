-- Errors of a site of procedures: those that stand, and one executed again.
use Rattle.std.specs.Prelude.{ℕ, List, Option, Some, None, Result, Ok, Err}
use Rattle.rep_values.specs.declared.name.SiteName.{SiteName}
use Rattle.rep_values.specs.declared.refusal.Refusal.{Refusal}
use Rattle.rep_values.specs.declared.refusal.Refusal.TheVariants as refusal
use Rattle.rep_schema.specs.Tables.{Rows}
use Rattle.txn_effects.specs.Transactions.{Failure}
use Rattle.error_queue.specs.declared.entry.ErrorEntry.{ErrorEntry}
use Rattle.site_state.specs.declared.entry.Entry.TheVariants.{Executed}
use Rattle.site_state.specs.Journal.{error_at}
use Rattle.site_state.specs.Errors.{errors_of}
use Rattle.proc_state.specs.State.{ProcState, as_site, journalled}
use Rattle.proc_state.specs.Passes.{txn_here}

-- the error queue: the errors that stand, by sender as declared, then by position
abbrev pub proc_errors : ProcState → List ErrorEntry
proc_errors x = errors_of (as_site x)

abbrev pub executed_by : ErrorEntry → Result (List Rows) Failure → ProcState → ProcState
executed_by e (Ok tables) x = journalled (Executed e.origin e.position 0 e.txn) x
executed_by e (Err failure) x = x

abbrev pub executed_found : Option ErrorEntry → ProcState → ProcState
executed_found None x = x
executed_found (Some e) x = executed_by e (txn_here e.txn x) x

-- the error of a position is executed again, where it stands and no longer fails
abbrev pub proc_execute : SiteName → ℕ → ProcState → ProcState
proc_execute origin position x = executed_found (error_at origin position x.journal) x

abbrev pub execute_refusal_by : Result (List Rows) Failure → Option Refusal
execute_refusal_by (Ok tables) = None
execute_refusal_by (Err failure) = Some (refusal.StillFails failure.error)

abbrev pub execute_refusal_found : Option ErrorEntry → ProcState → Option Refusal
execute_refusal_found None x = Some refusal.NoSuchError
execute_refusal_found (Some e) x = execute_refusal_by (txn_here e.txn x)

-- why an error isn't executed, if it isn't
abbrev pub proc_execute_refusal : SiteName → ℕ → ProcState → Option Refusal
proc_execute_refusal origin position x = execute_refusal_found (error_at origin position x.journal) x
