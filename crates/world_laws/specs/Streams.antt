-- Whose stream a packet of calls is of, and what has arrived and is acknowledged of it.
use Rattle.std.specs.Prelude.{◌≡◌, ℕ, ◌≤◌, List, Option, Some, None}
use Rattle.std.specs.List.{AllByRecursion}
use Rattle.rep_values.specs.declared.name.SiteName.{SiteName}
use Rattle.rep_calls.specs.declared.call.Txn.{Txn}
use Rattle.rep_calls.specs.declared.past.PastEntry.{PastEntry}
use Rattle.deferred_queue.specs.Streams.{acked_by}
use Rattle.packet_code.specs.declared.packet.Packet.{Packet}
use Rattle.packet_code.specs.declared.packet.Packet.TheVariants.{Carry, Mark}
use Rattle.net_plan.specs.Directions.{Direction}
use Rattle.site_state.specs.declared.entry.Entry.{Entry}
use Rattle.site_state.specs.declared.entry.Entry.TheVariants.{Local, Done, Error, Executed, Dropped, Refreshed}
use Rattle.site_state.specs.declared.arrival.Arrival.{Arrival}
use Rattle.site_state.specs.State.{SenderState}
use Rattle.site_state.specs.Journal.{low_water}
use Rattle.proc_state.specs.State.{ProcState}
use Rattle.world_state.specs.Procs.{proc_of}
use Rattle.world_state.specs.CallPushes.{calls_from}

-- how far all positions of a sender are finished at a site, where it is there
abbrev pub low_at : SiteName → Option ProcState → ℕ
low_at origin None = 0
low_at origin (Some x) = low_water origin x.journal

-- what is carried is what its sender has at that position of the stream to its receiver; a mark is at most the low-water mark of
-- the one that sent it
abbrev pub IsOfStreams : List ProcState → Packet → Type 0
IsOfStreams sites (Carry from to number position dep past txn) = calls_from to position (proc_of from sites) ≡ Some (Carry from to number position dep past txn)
IsOfStreams sites (Mark from to mark) = mark ≤ low_at to (proc_of from sites)

-- so it is with all packets that are held or on the way
pub record NetCarries (Holds : Packet → Type 0) (d : Direction) : Type 0 where
  pub held : AllByRecursion Holds d.held
  pub on_way : AllByRecursion Holds d.on_way

-- what arrived at a site from another one is what that one has there
abbrev pub HasArrived : List ProcState → SiteName → SiteName → Arrival → Type 0
HasArrived sites to from a = IsOfStreams sites (Carry from to a.number a.position a.dep a.past a.txn)

abbrev pub SenderHasArrived : List ProcState → SiteName → SenderState → Type 0
SenderHasArrived sites to s = AllByRecursion (HasArrived sites to s.origin) s.arrived

-- so it is with all that arrived there
abbrev pub ArrivedOfStreams : List ProcState → ProcState → Type 0
ArrivedOfStreams sites x = AllByRecursion (SenderHasArrived sites x.me) x.senders

-- a mark that a site has of another one is at most that one's low-water mark
abbrev pub MarksAreLow : List ProcState → ProcState → Type 0
MarksAreLow sites x = (to : SiteName) → acked_by to x.acked ≤ low_at x.me (proc_of to sites)

-- a transaction is the one that a site has at a position of its stream to another one
pub record CallsWereSent (sites : List ProcState) (from to : SiteName) (position : ℕ) (txn : Txn) : Type 0 where
  pub number : ℕ
  pub dep : ℕ
  pub past : List PastEntry
  pub is : IsOfStreams sites (Carry from to number position dep past txn)

-- so it is with one that a site finished, be it done or in error
abbrev pub EntryOfStreams : List ProcState → SiteName → Entry → Type 0
EntryOfStreams sites me (Local number txn) = Unit {0}
EntryOfStreams sites me (Done origin position onward txn) = CallsWereSent sites origin me position txn
EntryOfStreams sites me (Error origin position call error txn) = CallsWereSent sites origin me position txn
EntryOfStreams sites me (Executed origin position onward txn) = Unit {0}
EntryOfStreams sites me (Dropped origin position) = Unit {0}
EntryOfStreams sites me (Refreshed moment) = Unit {0}

abbrev pub JournalOfStreams : List ProcState → ProcState → Type 0
JournalOfStreams sites x = AllByRecursion (EntryOfStreams sites x.me) x.journal

-- packets, arrivals, marks and journals are of the sites' streams
pub record AreOfStreams (sites : List ProcState) (net : List Direction) : Type 0 where
  pub carried : AllByRecursion (NetCarries (IsOfStreams sites)) net
  pub arrived : AllByRecursion (ArrivedOfStreams sites) sites
  pub marks : AllByRecursion (MarksAreLow sites) sites
  pub journals : AllByRecursion (JournalOfStreams sites) sites
