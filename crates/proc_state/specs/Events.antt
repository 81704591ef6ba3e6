-- What can happen at a site of procedures, one thing after the other.
use Rattle.std.specs.Prelude.{◌≡◌, ℕ, ◌<◌, ◌≤◌, true, List, [], ◌∷◌, length}
use Rattle.rep_values.specs.declared.name.SiteName.{SiteName}
use Rattle.rep_schema.specs.declared.schema.Schema.{Schema}
use Rattle.packet_code.specs.declared.packet.Packet.{Packet}
use Rattle.packet_code.specs.declared.packet.Packet.TheVariants.{Carry, Mark}
use Rattle.proc_state.specs.declared.procedure.Procedure.{Procedure}
use Rattle.proc_state.specs.declared.call.ProcCall.{ProcCall}
use Rattle.proc_state.specs.Calls.{calls_fit}
use Rattle.proc_state.specs.State.{ProcState, new_proc}
use Rattle.proc_state.specs.Calling.{proc_call}
use Rattle.proc_state.specs.Packets.{proc_accept}
use Rattle.proc_state.specs.Passes.{proc_apply, proc_pass}
use Rattle.proc_state.specs.Errors.{proc_execute}

-- calls are made, a packet comes, a position is applied, a pass is made, an error is executed
pub data ProcEvent : Type 0 where
  Call : (calls : List ProcCall) → (to : List SiteName) → ProcEvent
  Accept : (packet : Packet) → ProcEvent
  Apply : (origin : SiteName) → (position : ℕ) → ProcEvent
  Pass : (origin : SiteName) → ProcEvent
  Execute : (origin : SiteName) → (position : ℕ) → ProcEvent

-- a site after one event
abbrev pub after_event : ProcEvent → ProcState → ProcState
after_event (Call calls to) x = proc_call calls to x
after_event (Accept packet) x = proc_accept packet x
after_event (Apply origin position) x = proc_apply origin position x
after_event (Pass origin) x = proc_pass origin x
after_event (Execute origin position) x = proc_execute origin position x

-- a site after events, the newest of which stands first
abbrev pub after_events : List ProcEvent → ProcState → ProcState
after_events [] x = x
after_events (e ∷ es) x = after_event e (after_events es x)

-- calls of procedures, 1 to 1,000 of them
pub record AreCalls (schema : Schema) (procedures : List Procedure) (calls : List ProcCall) : Type 0 where
  pub fit : calls_fit schema procedures calls ≡ true
  pub some : 1 ≤ length calls
  pub most : length calls ≤ 1000

-- a packet carries 1 to 1,000 calls, which depend on an earlier position, or is a mark
abbrev pub PacketFits : Packet → Type 0
PacketFits (Carry from to number position dep past txn) = (dep < position) × (1 ≤ length txn.calls) × (length txn.calls ≤ 1000)
PacketFits (Mark from to mark) = Unit {0}

-- calls and packets fit
abbrev pub EventFits : Schema → List Procedure → ProcEvent → Type 0
EventFits schema procedures (Call calls to) = AreCalls schema procedures calls
EventFits schema procedures (Accept packet) = PacketFits packet
EventFits schema procedures (Apply origin position) = Unit {0}
EventFits schema procedures (Pass origin) = Unit {0}
EventFits schema procedures (Execute origin position) = Unit {0}

-- a site of procedures among other masters, after events from the first on
abbrev pub reached : Schema → List Procedure → SiteName → List SiteName → List ProcEvent → ProcState
reached schema procedures me masters events = after_events events (new_proc schema procedures me masters)

-- so it is with every site, whatever happens
abbrev pub AfterAll : (ProcState → Type 0) → Type 0
AfterAll Holds = (schema : Schema) (procedures : List Procedure) (me : SiteName) (masters : List SiteName) (events : List ProcEvent) → Holds (reached schema procedures me masters events)
