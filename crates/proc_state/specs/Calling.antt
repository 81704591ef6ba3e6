-- Calls at a site: they are applied there, and queued for other masters.
use Rattle.std.specs.Prelude.{ℕ, ◌+◌, List, ◌∷◌, Result, Ok, Err}
use Rattle.rep_values.specs.declared.name.SiteName.{SiteName}
use Rattle.rep_schema.specs.Tables.{Rows}
use Rattle.txn_effects.specs.Transactions.{Failure}
use Rattle.site_state.specs.declared.entry.Entry.TheVariants.{Local}
use Rattle.proc_state.specs.declared.call.ProcCall.{ProcCall}
use Rattle.proc_state.specs.Calls.{calls_after}
use Rattle.proc_state.specs.Carriers.{carried_txn}
use Rattle.proc_state.specs.State.{ProcState, proc_tables, proc_count, named_masters}

-- what calls do to a site's tables now
abbrev pub calls_here : List ProcCall → ProcState → Result (List Rows) Failure
calls_here calls x = calls_after x.schema x.procedures 1 calls (proc_tables x)

-- calls are journalled and queued as a transaction of the site's own, for these destinations
abbrev pub queued : List ProcCall → List SiteName → ProcState → ProcState
queued calls to x = record x {
  journal = Local (proc_count x + 1) (carried_txn x.schema x.procedures calls) ∷ x.journal;
  lists = named_masters to x ∷ x.lists;
}

abbrev pub called_by : Result (List Rows) Failure → List ProcCall → List SiteName → ProcState → ProcState
called_by (Ok tables) calls to x = queued calls to x
called_by (Err failure) calls to x = x

-- calls are made for the named masters; where one of them fails, all is as before
abbrev pub proc_call : List ProcCall → List SiteName → ProcState → ProcState
proc_call calls to x = called_by (calls_here calls x) calls to x

abbrev pub call_answer_by : Result (List Rows) Failure → ProcState → Result ℕ Failure
call_answer_by (Ok tables) x = Ok (proc_count x + 1)
call_answer_by (Err failure) x = Err failure

-- the number under which calls are queued; or the first of them that fails, from 1
abbrev pub proc_call_answer : List ProcCall → ProcState → Result ℕ Failure
proc_call_answer calls x = call_answer_by (calls_here calls x) x
