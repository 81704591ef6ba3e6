-- What arrived at a site of procedures is applied: one position, or a whole pass.
use Rattle.std.specs.Prelude.{ℕ, List, [], ◌∷◌, Option, Some, None, Result, Ok, Err}
use Rattle.rep_values.specs.declared.name.SiteName.{SiteName}
use Rattle.rep_schema.specs.Tables.{Rows}
use Rattle.rep_calls.specs.declared.call.Txn.{Txn}
use Rattle.txn_effects.specs.Transactions.{Failure}
use Rattle.site_state.specs.declared.entry.Entry.TheVariants.{Done, Error}
use Rattle.site_state.specs.declared.answers.PassCount.{PassCount}
use Rattle.site_state.specs.declared.answers.Applied.{Applied}
use Rattle.site_state.specs.declared.answers.Applied.TheVariants as applied
use Rattle.site_state.specs.declared.answers.Why.{Why}
use Rattle.site_state.specs.declared.answers.Why.TheVariants as why
use Rattle.site_state.specs.declared.arrival.Arrival.{Arrival}
use Rattle.site_state.specs.State.{arrived_at, arrivals}
use Rattle.site_state.specs.Ready.{stale_of}
use Rattle.site_state.specs.Passes.{is_done, is_error, added_count}
use Rattle.proc_state.specs.Carriers.{txn_after}
use Rattle.proc_state.specs.State.{ProcState, as_site, proc_tables, journalled}

-- what a transaction does to a site's tables now
abbrev pub txn_here : Txn → ProcState → Result (List Rows) Failure
txn_here txn x = txn_after x.schema x.procedures txn (proc_tables x)

-- an arrival is done, or it is in error
abbrev pub finished_by : SiteName → Arrival → Result (List Rows) Failure → ProcState → ProcState
finished_by origin a (Ok tables) x = journalled (Done origin a.position 0 a.txn) x
finished_by origin a (Err failure) x = journalled (Error origin a.position failure.call failure.error a.txn) x

abbrev pub applied_unless : Option Why → SiteName → Option Arrival → ProcState → ProcState
applied_unless (Some why) origin found x = x
applied_unless None origin None x = x
applied_unless None origin (Some a) x = finished_by origin a (txn_here a.txn x) x

-- a position is applied, where it is ready
abbrev pub proc_apply : SiteName → ℕ → ProcState → ProcState
proc_apply origin position x = applied_unless (stale_of origin position (as_site x)) origin (arrived_at origin position x.senders) x

abbrev pub apply_answer_by : Result (List Rows) Failure → Applied
apply_answer_by (Ok tables) = applied.Done
apply_answer_by (Err failure) = applied.Error failure.error

abbrev pub apply_answer_unless : Option Why → Option Arrival → ProcState → Applied
apply_answer_unless (Some why) found x = applied.Stale why
apply_answer_unless None None x = applied.Stale why.NotArrived
apply_answer_unless None (Some a) x = apply_answer_by (txn_here a.txn x)

-- what becomes of a position
abbrev pub proc_apply_answer : SiteName → ℕ → ProcState → Applied
proc_apply_answer origin position x = apply_answer_unless (stale_of origin position (as_site x)) (arrived_at origin position x.senders) x

-- the positions of arrivals one after the other, each where it is ready then
abbrev pub apply_each : SiteName → List Arrival → ProcState → ProcState
apply_each origin [] x = x
apply_each origin (a ∷ arrived) x = apply_each origin arrived (proc_apply origin a.position x)

-- a pass for a sender: each position that arrived, in rising order
abbrev pub proc_pass : SiteName → ProcState → ProcState
proc_pass origin x = apply_each origin (arrivals origin (as_site x)) x

-- how many transactions a pass finishes
abbrev pub proc_pass_answer : SiteName → ProcState → PassCount
proc_pass_answer origin x = record {
  done = added_count is_done (as_site x) (as_site (proc_pass origin x));
  errors = added_count is_error (as_site x) (as_site (proc_pass origin x));
}
