-- What a site sends and takes in.
use Rattle.std.specs.Prelude.{ℕ, ◌+◌, ◌&&◌, ◌||◌, Bool, true, false, not, nat_lt, nat_le, cond, max, List, [], length, Option, Some, None, is_some, is_none}
use Rattle.std.specs.List.{list_all}
use Rattle.rep_lists.specs.Rising.{put_at}
use Rattle.rep_values.specs.declared.name.SiteName.{SiteName}
use Rattle.rep_calls.specs.declared.call.Txn.{Txn}
use Rattle.rep_calls.specs.declared.past.PastEntry.{PastEntry}
use Rattle.conflict_detect.specs.FitTests.{txn_fits}
use Rattle.deferred_queue.specs.Streams.{at_position}
use Rattle.rep_values.specs.SiteNames.{is_same_site}
use Rattle.packet_code.specs.declared.packet.Packet.{Packet}
use Rattle.packet_code.specs.declared.packet.Packet.TheVariants.{Carry, Mark}
use Rattle.site_state.specs.declared.answers.Accepted.{Accepted}
use Rattle.site_state.specs.declared.answers.Accepted.TheVariants as accepted
use Rattle.site_state.specs.declared.arrival.Arrival.{Arrival}
use Rattle.site_state.specs.State.{SenderState, DestinationState, SiteState, sender_of, at_sender, arrival_beside, arrived_at, destination_of, at_destination, opened_of}
use Rattle.rep_schema.specs.Sites.{is_master_site}
use Rattle.site_state.specs.Journal.{low_water}
use Rattle.site_state.specs.Streams.{stream_to, dep_at}
use Rattle.site_state.specs.Pasts.{pasts_of}

-- ---- what is sent

abbrev pub count_opened : Option ℕ → ℕ
count_opened None = 0
count_opened (Some opened) = opened

-- the queue number of a position of the stream to a destination
abbrev pub stream_number : SiteName → ℕ → SiteState → ℕ
stream_number to position x = count_opened (opened_of to x) + position

abbrev pub past_in : Option (List PastEntry) → List PastEntry
past_in None = []
past_in (Some past) = past

-- what the site had seen before the transaction of a queue number
abbrev pub past_before : ℕ → SiteState → List PastEntry
past_before number x = past_in (at_position number (pasts_of x))

-- the packet that carries a transaction at a position of the stream to a destination
abbrev pub carry_of : SiteName → ℕ → SiteState → Txn → Packet
carry_of to position x txn = Carry x.here.site to (stream_number to position x) position (dep_at x.schema position (stream_to to x))
    (past_before (stream_number to position x) x) txn

abbrev pub packet_found : SiteName → ℕ → SiteState → Option Txn → Option Packet
packet_found to position x None = None
packet_found to position x (Some txn) = cond (nat_le (stream_number to position x) x.purged) None (Some (carry_of to position x txn))

-- the packet of a position of the stream to a destination; none where the position wasn't given or is purged
abbrev pub site_packet : SiteName → ℕ → SiteState → Option Packet
site_packet to position x = packet_found to position x (at_position position (stream_to to x))

-- the mark for a sender: how far all of its positions are finished here
abbrev pub mark_of : SiteName → SiteState → Packet
mark_of to x = Mark x.here.site to (low_water to x.journal)

-- ---- what is taken in

-- a past names this site, or a master among the senders
abbrev pub is_known_past : SiteState → PastEntry → Bool
is_known_past x seen = is_same_site seen.origin x.here.site || (is_master_site x.schema seen.origin && is_some (sender_of seen.origin x.senders))

-- a packet isn't for this site, is from no sender or destination, has a call that doesn't fit the schema or a past of an
-- unknown site, or is a mark above the last position
abbrev pub is_foreign : Packet → SiteState → Bool
is_foreign (Carry from to number position dep past txn) x =
    not (is_same_site to x.here.site) || is_none (sender_of from x.senders) || not (txn_fits x.schema txn) || not (list_all (is_known_past x) past)
is_foreign (Mark from to mark) x =
    not (is_same_site to x.here.site) || is_none (destination_of from x.destinations) || nat_lt (length (stream_to from x)) mark

-- one arrival more
abbrev pub with_arrival : Arrival → SenderState → SenderState
with_arrival a s = record { origin = s.origin; first = s.first; arrived = put_at (arrival_beside a.position) a s.arrived }

-- what came is kept, unless its position arrived before
abbrev pub arrived_by : Option Arrival → SiteName → Arrival → SiteState → SiteState
arrived_by None from a x = record x { senders = at_sender from (with_arrival a) x.senders }
arrived_by (Some before) from a x = x

-- a mark counts where it is higher than the one before
abbrev pub acknowledged : ℕ → DestinationState → DestinationState
acknowledged mark d = record { site = d.site; opened = d.opened; acked = max d.acked mark }

abbrev pub taken_in : Packet → SiteState → SiteState
taken_in (Carry from to number position dep past txn) x =
    arrived_by (arrived_at from position x.senders) from (record { position = position; number = number; dep = dep; past = past; txn = txn }) x
taken_in (Mark from to mark) x = record x { destinations = at_destination from (acknowledged mark) x.destinations }

abbrev pub taken_unless : Bool → Packet → SiteState → SiteState
taken_unless true packet x = x
taken_unless false packet x = taken_in packet x

-- a packet is taken in, where it isn't foreign
abbrev pub site_accept : Packet → SiteState → SiteState
site_accept packet x = taken_unless (is_foreign packet x) packet x

abbrev pub accept_answer_by : Packet → SiteState → Accepted
accept_answer_by (Carry from to number position dep past txn) x = cond (is_some (arrived_at from position x.senders)) accepted.Repeat accepted.New
accept_answer_by (Mark from to mark) x = accepted.Marked

-- what becomes of a packet
abbrev pub accept_answer : Packet → SiteState → Accepted
accept_answer packet x = cond (is_foreign packet x) accepted.Foreign (accept_answer_by packet x)
