-- Laws of transactions of calls, and of sites of procedures.
use Rattle.std.specs.Prelude.{◌≡◌, ℕ, ◌<◌, ◌≤◌, ◌==◌, Bool, true, false, List, Option, Some, None, Result, Ok, Err}
use Rattle.std.specs.List.{AllByRecursion, list_any}
use Rattle.rep_lists.specs.Rising.{find_at}
use Rattle.rep_values.specs.declared.name.SiteName.{SiteName}
use Rattle.rep_values.specs.declared.refusal.ApplyError.{ApplyError}
use Rattle.rep_values.specs.declared.refusal.Refusal.{Refusal}
use Rattle.rep_schema.specs.declared.schema.Schema.{Schema}
use Rattle.rep_schema.specs.Tables.{Rows}
use Rattle.rep_calls.specs.declared.call.Call.{Call}
use Rattle.rep_calls.specs.declared.call.Txn.{Txn}
use Rattle.conflict_detect.specs.Fits.{table_of}
use Rattle.txn_effects.specs.Transactions.{Failure}
use Rattle.deferred_queue.specs.declared.queued_txn.QueuedTxn.{QueuedTxn}
use Rattle.deferred_queue.specs.Streams.{InStream, queue_stream_to, at_position}
use Rattle.packet_code.specs.declared.packet.Packet.{Packet}
use Rattle.error_queue.specs.declared.entry.ErrorEntry.{ErrorEntry}
use Rattle.site_state.specs.declared.entry.Entry.{Entry}
use Rattle.site_state.specs.declared.answers.Applied.TheVariants as applied
use Rattle.site_state.specs.declared.arrival.Arrival.{Arrival}
use Rattle.site_state.specs.State.{arrival_beside, arrived_at, arrivals}
use Rattle.site_state.specs.Journal.{finishes, finished, error_at}
use Rattle.site_state.specs.Ready.{is_ready}
use Rattle.site_state.specs.Fits.{SchemaIsKeyed}
use Rattle.site_state.specs.Waited.{EachBehind, IsFinishedOnce}
use Rattle.proc_state.specs.declared.procedure.Procedure.{Procedure}
use Rattle.proc_state.specs.declared.call.ProcCall.{ProcCall}
use Rattle.proc_state.specs.Calls.{AreProcedures, calls_fit, calls_after, tables_by}
use Rattle.proc_state.specs.Carriers.{carried_txn, txn_after, tables_after, shares}
use Rattle.proc_state.specs.State.{ProcState, as_site, proc_tables, proc_queue}
use Rattle.proc_state.specs.Calling.{calls_here, proc_call, proc_call_answer}
use Rattle.proc_state.specs.Packets.{proc_packet}
use Rattle.proc_state.specs.Passes.{proc_apply, proc_apply_answer, proc_pass}
use Rattle.proc_state.specs.Errors.{proc_execute, proc_execute_refusal}
use Rattle.proc_state.specs.Events.{ProcEvent, PacketFits, EventFits, reached, AfterAll}
use Rattle.proc_state.specs.Fits.{ArePassable, ProcFits}

-- ---- transactions

-- calls that fit do the same when they are carried
abbrev pub CarriedCallsDoTheSame : Type 0
CarriedCallsDoTheSame = (schema : Schema) (procedures : List Procedure) (calls : List ProcCall) (tables : List Rows)
    → AreProcedures schema procedures → calls_fit schema procedures calls ≡ true
    → txn_after schema procedures (carried_txn schema procedures calls) tables ≡ calls_after schema procedures 1 calls tables

-- a transaction calls on a table
abbrev pub calls_on : ℕ → Txn → Bool
calls_on table txn = list_any (λ (call : Call). table == table_of call) txn.calls

-- two transactions share a token exactly where both call on some table
abbrev pub TokensStandForTables : Type 0
TokensStandForTables = (txn other : Txn) → shares txn other ≡ list_any (λ (call : Call). calls_on (table_of call) other) txn.calls

-- the failure of a transaction, where it fails
abbrev pub failure_of : Result (List Rows) Failure → Option Failure
failure_of (Ok tables) = None
failure_of (Err failure) = Some failure

-- in either order two transactions leave the same tables, and each of them fails, if it does, as it does alone
pub record EndAlike (schema : Schema) (procedures : List Procedure) (one other : Txn) (tables : List Rows) : Type 0 where
  pub left : tables_after schema procedures other (tables_after schema procedures one tables) ≡ tables_after schema procedures one (tables_after schema procedures other tables)
  pub first : failure_of (txn_after schema procedures one (tables_after schema procedures other tables)) ≡ failure_of (txn_after schema procedures one tables)
  pub second : failure_of (txn_after schema procedures other (tables_after schema procedures one tables)) ≡ failure_of (txn_after schema procedures other tables)

-- so it is with transactions that share no token
abbrev pub IndependentOnesEndAlike : Type 0
IndependentOnesEndAlike = (schema : Schema) (procedures : List Procedure) (one other : Txn) (tables : List Rows) → shares one other ≡ false → EndAlike schema procedures one other tables

-- ---- calls of a site

-- calls that fail change nothing
abbrev pub FailedCallsChangeNothing : Type 0
FailedCallsChangeNothing = (x : ProcState) (calls : List ProcCall) (to : List SiteName) (failure : Failure) → proc_call_answer calls x ≡ Err failure → proc_call calls to x ≡ x

-- calls that fit leave the tables that they lead to
abbrev pub CallsLeadToTheirTables : Type 0
CallsLeadToTheirTables = (x : ProcState) (calls : List ProcCall) (to : List SiteName) → AreProcedures x.schema x.procedures → calls_fit x.schema x.procedures calls ≡ true
    → proc_tables (proc_call calls to x) ≡ tables_by (calls_here calls x) (proc_tables x)

-- the tables are as before, and the error stands with the transaction as it arrived
pub record StandsWhole (x y : ProcState) (origin : SiteName) (position : ℕ) (error : ApplyError) : Type 0 where
  pub tables : proc_tables y ≡ proc_tables x
  pub arrival : Arrival
  pub arrived : arrived_at origin position x.senders ≡ Some arrival
  pub entry : ErrorEntry
  pub stands : error_at origin position y.journal ≡ Some entry
  pub why : entry.error ≡ error
  pub whole : entry.txn ≡ arrival.txn

-- a position that is applied and fails changes no table, and stands whole
abbrev pub ErrorsStandWhole : Type 0
ErrorsStandWhole = (x : ProcState) (origin : SiteName) (position : ℕ) (error : ApplyError) → proc_apply_answer origin position x ≡ applied.Error error
    → StandsWhole x (proc_apply origin position x) origin position error

-- an execution that is refused changes nothing
abbrev pub RefusedExecutionsChangeNothing : Type 0
RefusedExecutionsChangeNothing = (x : ProcState) (origin : SiteName) (position : ℕ) (refusal : Refusal) → proc_execute_refusal origin position x ≡ Some refusal → proc_execute origin position x ≡ x

-- the transaction of an error was applied to the tables as they were, and the error no longer stands
pub record IsExecuted (x y : ProcState) (origin : SiteName) (position : ℕ) : Type 0 where
  pub entry : ErrorEntry
  pub stood : error_at origin position x.journal ≡ Some entry
  pub tables : proc_tables y ≡ tables_after x.schema x.procedures entry.txn (proc_tables x)
  pub cleared : error_at origin position y.journal ≡ None

-- any other one does that
abbrev pub ExecutionsApplyAnew : Type 0
ExecutionsApplyAnew = (x : ProcState) (origin : SiteName) (position : ℕ) → proc_execute_refusal origin position x ≡ None → IsExecuted x (proc_execute origin position x) origin position

-- ---- positions

-- each position of a sender is finished at most once, whatever happens
abbrev pub AreFinishedOnce : Type 0
AreFinishedOnce = AfterAll (λ (x : ProcState). IsFinishedOnce x.journal)

-- arrivals are well numbered: of two whose transactions share a token, the later one's dependency number is at least the
-- earlier position
abbrev pub AreWellNumbered : List Arrival → Type 0
AreWellNumbered arrived = (p q : ℕ) (a b : Arrival) → find_at (arrival_beside p) arrived ≡ Some a → find_at (arrival_beside q) arrived ≡ Some b → p < q → shares b.txn a.txn ≡ true → p ≤ b.dep

-- where an entry finishes a position of a sender, the earlier ones whose transactions share a token with its own were
-- finished before; positions are counted from 1
abbrev pub ComesBehind : ProcState → SiteName → Entry → List Entry → Type 0
ComesBehind x origin e before = (p q : ℕ) (a b : Arrival) → finishes origin q e ≡ true → arrived_at origin p x.senders ≡ Some a → arrived_at origin q x.senders ≡ Some b
    → 0 < p → p < q → shares b.txn a.txn ≡ true → finished origin before p ≡ true

-- a site finishes the earlier of two positions of a sender that share a token first, where what arrived from the sender is
-- well numbered
abbrev pub FinishesEarlierFirst : ProcState → Type 0
FinishesEarlierFirst x = (origin : SiteName) → AreWellNumbered (arrivals origin (as_site x)) → EachBehind (ComesBehind x origin) x.journal

-- so it is whatever happens
abbrev pub EarlierComesFirst : Type 0
EarlierComesFirst = AfterAll FinishesEarlierFirst

-- a transaction at a position of a stream depends on an earlier position, and on each earlier transaction with which it
-- shares a token
pub record DependsOnSharers (stream : List InStream) (position : ℕ) (s : InStream) (cargo : QueuedTxn) : Type 0 where
  pub earlier : s.dep < position
  pub sharers : (p : ℕ) (a : InStream) (other : QueuedTxn) → p < position → at_position p stream ≡ Some a → a.cargo ≡ Some other → shares cargo.txn other.txn ≡ true → p ≤ s.dep

-- so it is with each transaction in the stream to a site
abbrev pub StreamsDependOnSharers : Type 0
StreamsDependOnSharers = (x : ProcState) (site : SiteName) (position : ℕ) (s : InStream) (cargo : QueuedTxn) → at_position position (queue_stream_to site (proc_queue x)) ≡ Some s → s.cargo ≡ Some cargo
    → DependsOnSharers (queue_stream_to site (proc_queue x)) position s cargo

-- an arrival is what stands at its position in a site's stream to another
pub record IsOfStream (sender : ProcState) (site : SiteName) (a : Arrival) : Type 0 where
  pub sent : InStream
  pub cargo : QueuedTxn
  pub there : at_position a.position (queue_stream_to site (proc_queue sender)) ≡ Some sent
  pub carries : sent.cargo ≡ Some cargo
  pub dep : a.dep ≡ sent.dep
  pub txn : a.txn ≡ cargo.txn

-- arrivals that are so are well numbered
abbrev pub StreamsArriveWellNumbered : Type 0
StreamsArriveWellNumbered = (sender : ProcState) (site : SiteName) (arrived : List Arrival) → AllByRecursion (IsOfStream sender site) arrived → AreWellNumbered arrived

-- ---- passes

-- after a pass no position of the sender is ready, where what arrived can be passed
abbrev pub PassesLeaveNothingReady : Type 0
PassesLeaveNothingReady = (origin : SiteName) (x : ProcState) → ArePassable (arrivals origin (as_site x)) → (position : ℕ) → is_ready origin position (as_site (proc_pass origin x)) ≡ false

-- ---- what fits

-- a site fits, of whose schema each table has a key, whatever calls that fit and packets that fit there are
abbrev pub EverySiteFits : Type 0
EverySiteFits = (schema : Schema) (procedures : List Procedure) (me : SiteName) (masters : List SiteName) (events : List ProcEvent) → SchemaIsKeyed schema → AreProcedures schema procedures
    → AllByRecursion (EventFits schema procedures) events → ProcFits (reached schema procedures me masters events)

-- what arrived at a site that fits can be passed
abbrev pub EverySiteCanPass : Type 0
EverySiteCanPass = (x : ProcState) → ProcFits x → (origin : SiteName) → ArePassable (arrivals origin (as_site x))

-- what a site that fits sends fits
abbrev pub SentPacketsFit : Type 0
SentPacketsFit = (x : ProcState) (to : SiteName) (position : ℕ) (packet : Packet) → ProcFits x → proc_packet to position x ≡ Some packet → PacketFits packet
