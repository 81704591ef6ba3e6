-- What a site of procedures sends and takes in.
use Rattle.std.specs.Prelude.{ℕ, ◌||◌, Bool, not, nat_lt, cond, List, map, Option, Some, None, is_none}
use Rattle.rep_values.specs.declared.name.SiteName.{SiteName}
use Rattle.deferred_queue.specs.declared.queued_txn.QueuedTxn.{QueuedTxn}
use Rattle.deferred_queue.specs.Streams.{InStream, Mark as Acked, queue_stream_to, at_position, last_position, raised_mark}
use Rattle.rep_values.specs.SiteNames.{is_same_site}
use Rattle.packet_code.specs.declared.packet.Packet.{Packet}
use Rattle.packet_code.specs.declared.packet.Packet.TheVariants.{Carry, Mark}
use Rattle.site_state.specs.declared.answers.Accepted.{Accepted}
use Rattle.site_state.specs.declared.answers.Accepted.TheVariants as accepted
use Rattle.site_state.specs.State.{sender_of}
use Rattle.rep_schema.specs.Sites.{is_among}
use Rattle.site_state.specs.Packets.{mark_of, taken_in, accept_answer_by}
use Rattle.site_state.specs.Steps.{is_empty}
use Rattle.proc_state.specs.Carriers.{is_carried}
use Rattle.proc_state.specs.State.{ProcState, as_site, proc_queue, other_masters}

-- ---- what is sent

abbrev pub carry_by : SiteName → SiteName → ℕ → InStream → Option QueuedTxn → Option Packet
carry_by me to position s None = None
carry_by me to position s (Some cargo) = Some (Carry me to s.number position s.dep cargo.past cargo.txn)

abbrev pub carry_found : SiteName → SiteName → ℕ → Option InStream → Option Packet
carry_found me to position None = None
carry_found me to position (Some s) = carry_by me to position s s.cargo

-- the packet of a position of the stream to a site; none where the position wasn't given
abbrev pub proc_packet : SiteName → ℕ → ProcState → Option Packet
proc_packet to position x = carry_found x.me to position (at_position position (queue_stream_to to (proc_queue x)))

-- the mark for a sender: how far all of its positions are finished here
abbrev pub proc_mark : SiteName → ProcState → Packet
proc_mark to x = mark_of to (as_site x)

-- ---- what is taken in

-- a packet isn't for this site, is from no other master, has a call of no procedure's form or a past, or is a mark above the
-- last position
abbrev pub is_foreign : Packet → ProcState → Bool
is_foreign (Carry from to number position dep past txn) x =
    not (is_same_site to x.me) || is_none (sender_of from x.senders) || not (is_carried x.schema x.procedures txn) || not (is_empty past)
is_foreign (Mark from to mark) x =
    not (is_same_site to x.me) || not (is_among (other_masters x) from) || nat_lt (last_position from (proc_queue x)) mark

-- the marks after a packet: a mark counts where it is higher than the one before
abbrev pub acked_after : Packet → List Acked → List Acked
acked_after (Carry from to number position dep past txn) acked = acked
acked_after (Mark from to mark) acked = map (raised_mark from mark) acked

-- a packet is taken in: what is carried is kept as other sites keep it, unless its position arrived before
abbrev pub taken : Packet → ProcState → ProcState
taken packet x = record x { senders = (taken_in packet (as_site x)).senders; acked = acked_after packet x.acked }

-- a packet is taken in, where it isn't foreign
abbrev pub proc_accept : Packet → ProcState → ProcState
proc_accept packet x = cond (is_foreign packet x) x (taken packet x)

-- what becomes of a packet
abbrev pub proc_accept_answer : Packet → ProcState → Accepted
proc_accept_answer packet x = cond (is_foreign packet x) accepted.Foreign (accept_answer_by packet (as_site x))
