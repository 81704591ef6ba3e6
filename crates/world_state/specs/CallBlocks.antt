-- The block of calls: how it grows, what a send makes of it, and which call of it is refused.
use Rattle.std.specs.Prelude.{ℕ, ◌+◌, ◌-◌, ◌&&◌, ◌||◌, Bool, false, not, nat_lt, cond, List, [], ◌∷◌, ◌++◌, map, length, Option, Some, None, Result, Ok, Err, slice_get}
use Rattle.std.specs.List.{list_all}
use Rattle.rep_values.specs.declared.name.SiteName.{SiteName}
use Rattle.rep_values.specs.declared.literal.Literal.{Literal}
use Rattle.rep_values.specs.declared.refusal.Refusal.{Refusal}
use Rattle.rep_values.specs.declared.refusal.Refusal.TheVariants as refusal
use Rattle.rep_values.specs.declared.refusal.Limit.TheVariants as limit
use Rattle.rep_values.specs.RefusalSteps.{refused, or_then, first_refusal, known}
use Rattle.rep_schema.specs.declared.schema.Schema.{Schema}
use Rattle.rep_schema.specs.declared.schema.Column.{Column}
use Rattle.rep_schema.specs.declared.schema.Kind.TheVariants as kind
use Rattle.rep_schema.specs.Tables.{columns_of}
use Rattle.rep_schema.specs.Kinds.{is_of_kind, row_in_range}
use Rattle.rep_declare.specs.Additions.{place_or_zero}
use Rattle.txn_effects.specs.Literals.{literals_fit, values_of}
use Rattle.txn_effects.specs.Transactions.{Failure}
use Rattle.rep_schema.specs.Sites.{is_among}
use Rattle.site_state.specs.Steps.{is_empty}
use Rattle.proc_state.specs.declared.call.ProcCall.{ProcCall}
use Rattle.proc_state.specs.declared.procedure.Action.{Action}
use Rattle.proc_state.specs.declared.procedure.Action.TheVariants as action
use Rattle.proc_state.specs.State.{ProcState, other_masters}
use Rattle.proc_state.specs.Calling.{proc_call, proc_call_answer}
use Rattle.script_parse.specs.declared.command.Command.{Command}
use Rattle.script_parse.specs.declared.command.Command.TheVariants as command
use Rattle.script_parse.specs.declared.proc_line.CallWords.{CallWords}
use Rattle.script_parse.specs.declared.proc_line.ProcLine.{ProcLine}
use Rattle.script_parse.specs.declared.proc_line.ProcLine.TheVariants as proc_line
use Rattle.world_state.specs.declared.call_block.CallBlock.{CallBlock}
use Rattle.world_state.specs.declared.call_block.CallStop.{CallStop}
use Rattle.world_state.specs.Procs.{Procs, proc_of, at_proc}
use Rattle.world_state.specs.ProcDeclaring.{procedure_named, procedure_place}
use Rattle.world_state.specs.Blocks.{line_in}

-- ---- the block

-- a block has at most so many calls
abbrev pub most_calls : ℕ
most_calls = 1000

-- a block of calls is opened at a site
abbrev pub calls_opened : SiteName → Procs → Procs
calls_opened site p = record p { block = Some (record { site = site; lines = []; calls = [] }) }

-- none is open
abbrev pub calls_closed : Procs → Procs
calls_closed p = record p { block = None }

-- a call more; one behind the first that is too many isn't kept
abbrev pub called_more : ℕ → CallWords → CallBlock → CallBlock
called_more line call block = cond (nat_lt most_calls (length block.calls)) block (record block { lines = block.lines ++ line ∷ []; calls = block.calls ++ call ∷ [] })

abbrev pub call_block_with : ℕ → CallWords → Option CallBlock → Option CallBlock
call_block_with line call None = None
call_block_with line call (Some block) = Some (called_more line call block)

-- a call of a line, in the open block
abbrev pub with_call : ℕ → CallWords → Procs → Procs
with_call line call p = record p { block = call_block_with line call p.block }

-- ---- what is sent

-- the call that words mean at a site
abbrev pub call_of : ProcState → CallWords → ProcCall
call_of x call = record { procedure = place_or_zero (procedure_place x.procedures call.procedure); values = values_of call.values }

abbrev pub calls_of : ProcState → List CallWords → List ProcCall
calls_of x calls = map (call_of x) calls

-- the masters that are named, or all other ones where none is
abbrev pub masters_named : List SiteName → ProcState → List SiteName
masters_named [] x = other_masters x
masters_named (name ∷ names) x = name ∷ names

-- the calls are made and queued for these masters; with no calls nothing happens
abbrev pub words_sent : List CallWords → List SiteName → ProcState → ProcState
words_sent [] to x = x
words_sent (call ∷ calls) to x = proc_call (calls_of x (call ∷ calls)) (masters_named to x) x

abbrev pub block_sent : Option CallBlock → List SiteName → Procs → Procs
block_sent None to p = p
block_sent (Some block) to p = calls_closed (record p { sites = at_proc block.site (words_sent block.calls to) p.sites })

-- the calls of the open block are sent from its site, and it is closed
abbrev pub calls_sent : List SiteName → Procs → Procs
calls_sent to p = block_sent p.block to p

abbrev pub queue_number : Result ℕ Failure → ℕ
queue_number (Ok number) = number
queue_number (Err failure) = 0

abbrev pub words_number : List CallWords → Option ProcState → ℕ
words_number calls None = 0
words_number [] (Some x) = 0
words_number (call ∷ calls) (Some x) = queue_number (proc_call_answer (calls_of x (call ∷ calls)) x)

abbrev pub block_sent_number : Option CallBlock → Procs → ℕ
block_sent_number None p = 0
block_sent_number (Some block) p = words_number block.calls (proc_of block.site p.sites)

-- the number under which the calls of the open block are queued, 0 where there are none
abbrev pub sent_number : Procs → ℕ
sent_number p = block_sent_number p.block p

-- ---- what a send is refused for: its names

-- a site is named twice
abbrev pub names_twice : List SiteName → Bool
names_twice [] = false
names_twice (name ∷ names) = is_among names name || names_twice names

-- each name is that of another master, and none stands twice
abbrev pub are_others : List SiteName → Option ProcState → Bool
are_others to None = false
are_others to (Some x) = list_all (is_among (other_masters x)) to && not (names_twice to)

abbrev pub block_site : Option CallBlock → Procs → Option ProcState
block_site None p = None
block_site (Some block) p = proc_of block.site p.sites

-- the site of the open block
abbrev pub calling_site : Procs → Option ProcState
calling_site p = block_site p.block p

-- the calls of the open block can be sent to these masters
abbrev pub can_send_to : List SiteName → Procs → Bool
can_send_to to p = are_others to (calling_site p)

-- ---- and its calls

abbrev pub is_one_number : List Literal → Bool
is_one_number [] = false
is_one_number (value ∷ []) = is_of_kind kind.Number value
is_one_number (value ∷ other ∷ values) = false

-- literals that an action takes, their ranges untested: one for each column for a put, one number for an add, none for a drop
abbrev pub literals_suit : Schema → List Column → Action → List Literal → Bool
literals_suit schema columns action.Put values = literals_fit schema columns values
literals_suit schema columns (action.Add column tests) values = is_one_number values
literals_suit schema columns (action.Drop tests) values = is_empty values

-- a call of a procedure: its name, then the shape of its values, then their ranges
abbrev pub call_steps : ProcState → CallWords → List (Option Refusal)
call_steps x call = known (procedure_named x.procedures call.procedure) (λ p.
    refused (not (literals_suit x.schema (columns_of x.schema p.table) p.action call.values)) refusal.RowShape ∷
    refused (not (row_in_range (values_of call.values))) refusal.ValueRange ∷ [])

-- why the call of a number is refused, if it is: there may be 1,000 of them
abbrev pub call_refusal : ProcState → ℕ → CallWords → Option Refusal
call_refusal x number call = or_then (refused (nat_lt most_calls number) (refusal.LimitReached limit.Statements)) (first_refusal (call_steps x call))

abbrev pub stopped_at : ℕ → Option Refusal → Option CallStop → Option CallStop
stopped_at number None following = following
stopped_at number (Some why) following = Some (record { call = number; refusal = why })

-- the first call that is refused, the first of them having a number
abbrev pub words_stop : ProcState → ℕ → List CallWords → Option CallStop
words_stop x number [] = None
words_stop x number (call ∷ calls) = stopped_at number (call_refusal x number call) (words_stop x (number + 1) calls)

-- the first call that fails: with it a number leaves its range
abbrev pub failed_stop : Result ℕ Failure → Option CallStop
failed_stop (Ok number) = None
failed_stop (Err failure) = Some (record { call = failure.call; refusal = refusal.ValueRange })

abbrev pub stop_or : Option CallStop → Option CallStop → Option CallStop
stop_or None following = following
stop_or (Some stop) following = Some stop

-- no call is made where one of them is refused
abbrev pub calls_stop : ProcState → List CallWords → Option CallStop
calls_stop x calls = stop_or (words_stop x 1 calls) (failed_stop (proc_call_answer (calls_of x calls) x))

abbrev pub stop_at_proc : List CallWords → Option ProcState → Option CallStop
stop_at_proc calls None = None
stop_at_proc calls (Some x) = calls_stop x calls

abbrev pub call_block_stop : Option CallBlock → Procs → Option CallStop
call_block_stop None p = None
call_block_stop (Some block) p = stop_at_proc block.calls (proc_of block.site p.sites)

-- the first call of the open block that is refused, from 1, and why
abbrev pub send_stop : Procs → Option CallStop
send_stop p = call_block_stop p.block p

abbrev pub stop_refusal : Option CallStop → Option Refusal
stop_refusal None = None
stop_refusal (Some stop) = Some stop.refusal

-- why the calls of the open block aren't made, if they aren't
abbrev pub send_refusal : Procs → Option Refusal
send_refusal p = stop_refusal (send_stop p)

abbrev pub called_line : ℕ → Option CallBlock → Option CallStop → ℕ
called_line line None stop = line
called_line line (Some block) None = line
called_line line (Some block) (Some stop) = line_in line (slice_get block.lines (stop.call - 1))

-- the line that a refused send of a line tells: that of the refused call, and its own where a name is
abbrev pub send_line : ℕ → List SiteName → Procs → ℕ
send_line line to p = cond (can_send_to to p) (called_line line p.block (send_stop p)) line

-- ---- lines that send

abbrev pub masters_of_send : ProcLine → Option (List SiteName)
masters_of_send (proc_line.Table name columns) = None
masters_of_send (proc_line.Procedure name table does) = None
masters_of_send (proc_line.Calls site) = None
masters_of_send (proc_line.Call call) = None
masters_of_send (proc_line.Send to) = Some to
masters_of_send (proc_line.Push from to) = None
masters_of_send (proc_line.Fates from to fates) = None
masters_of_send (proc_line.Execute site origin position) = None

-- the masters that a line names that sends the open block of calls
abbrev pub sent_to : Command → Option (List SiteName)
sent_to (command.Procedures line) = masters_of_send line
sent_to other = None
