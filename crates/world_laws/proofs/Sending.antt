-- What is sent and what arrived: a position above the acknowledged mark has its packet, and what arrived is from 1.
use Rattle.std.proofs.Common.{◌≡◌, ℕ, ◌+◌, ◌<◌, ◌≤◌, ◌==◌, List, [], ◌∷◌, length, Bool, true, false, cond, Some, None, refl, ap, arith, subst}
use Rattle.std.specs.Prelude.{◌≢◌, nat_le, Option}
use Rattle.std.specs.List.{AllByRecursion}
use Rattle.std.proofs.lemmas.Bool.Decides.{nat_tests}
use Rattle.rep_values.specs.declared.name.SiteName.{SiteName}
use Rattle.rep_calls.specs.declared.call.Txn.{Txn}
use Rattle.deferred_queue.specs.Streams.{at_position}
use Rattle.rep_values.specs.SiteNames.{is_same_site}
use Rattle.deferred_queue.proofs.Positions.{found_position}
use Rattle.packet_code.specs.declared.packet.Packet.{Packet}
use Rattle.site_state.specs.declared.arrival.Arrival.{Arrival}
use Rattle.site_state.specs.State.{SenderState, SiteState, sender_of, arrived_in, acked_of, opened_of}
use Rattle.site_state.specs.Streams.{stream_to, stream_in, queue_of}
use Rattle.site_state.specs.Packets.{count_opened, stream_number, packet_found, site_packet}
use Rattle.site_state.proofs.Changing.{PurgedIsAcked}
use Rattle.site_events.specs.Cluster.{site_of}
use Rattle.event_laws.proofs.RunInvariants.{SentBy, ArrivalHolds, SendersHold, HoldsAt, Holds}
use Rattle.world_laws.specs.Worlds.{EachIsSent, AreFrom1}

position_there : {X : Type 0} (p : ℕ) (xs : List X) → 0 < p → p ≤ length xs → at_position p xs ≢ None
position_there p [] above le = absurd (omega (arith, above, le))
position_there p (x ∷ xs) above le = go (p == length xs + 1) refl (position_there p xs above)
  where
    go : (b : Bool) → (p == length xs + 1) ≡ b → (p ≤ length xs → at_position p xs ≢ None) → cond b (Some x) (at_position p xs) ≢ None
    go true is later = λ none. absurd (cc none)
    go false is later = later (grind (arith, nat_tests, le))

packet_there : (to : SiteName) (position : ℕ) (x : SiteState) → PurgedIsAcked x → acked_of to x < position → position ≤ length (stream_to to x) → site_packet to position x ≢ None
packet_there to position x h above le = by_open (opened_of to x) refl
  where
    kept : (txn : Txn) → nat_le (stream_number to position x) x.purged ≡ false → packet_found to position x (Some txn) ≢ None
    kept txn is = rw is (λ none. absurd (cc none))

    by : nat_le (stream_number to position x) x.purged ≡ false → (t : Option Txn) → at_position position (stream_to to x) ≡ t → packet_found to position x t ≢ None
    by is None at = absurd (position_there position (stream_to to x) (omega (arith, above)) le at)
    by is (Some txn) at = kept txn is

    under : (count : ℕ) → opened_of to x ≡ Some count → nat_le (stream_number to position x) x.purged ≡ false
    under count is = let number : stream_number to position x ≡ count + position = ap (λ o. count_opened o + position) is in rw number (grind (arith, nat_tests, above, h.acked to count is))

    by_open : (o : Option ℕ) → opened_of to x ≡ o → site_packet to position x ≢ None
    by_open None is = let none : length (stream_to to x) ≡ 0 = ap (λ o. length (stream_in o (queue_of x))) is in absurd (omega (arith, above, le, none))
    by_open (Some count) is = by (under count is) (at_position position (stream_to to x)) refl

pub holds_packets : (sites : List SiteState) (sent : List Packet) → Holds sites sent → EachIsSent sites
holds_packets sites sent h from to x position found above le =
    let held : HoldsAt sites from (Some x) = subst (HoldsAt sites from) found (h.each from) in packet_there to position x held.purged above le

sent_from_1 : (o : Option SiteState) (site : SiteName) (a : Arrival) → SentBy o site a.number a.position a.dep a.txn → 0 < a.position
sent_from_1 None site a sent = absurd sent
sent_from_1 (Some y) site a sent = (found_position a.position (stream_to site y) a.txn sent.there).0

all_from_1 : (sites : List SiteState) (site origin : SiteName) (arrived : List Arrival) → AllByRecursion (ArrivalHolds sites site origin) arrived → AllByRecursion (λ (a : Arrival). 0 < a.position) arrived
all_from_1 sites site origin [] h = tt
all_from_1 sites site origin (a ∷ arrived) h = (sent_from_1 (site_of origin sites) site a h.0, all_from_1 sites site origin arrived h.1)

senders_from_1 : (sites : List SiteState) (site origin : SiteName) (ss : List SenderState) → SendersHold sites site ss → AllByRecursion (λ (a : Arrival). 0 < a.position) (arrived_in (sender_of origin ss))
senders_from_1 sites site origin [] h = tt
senders_from_1 sites site origin (s ∷ ss) h = go (is_same_site s.origin origin) (senders_from_1 sites site origin ss h.1)
  where
    go : (b : Bool) → AllByRecursion (λ (a : Arrival). 0 < a.position) (arrived_in (sender_of origin ss)) → AllByRecursion (λ (a : Arrival). 0 < a.position) (arrived_in (cond b (Some s) (sender_of origin ss)))
    go true later = all_from_1 sites site s.origin s.arrived h.0
    go false later = later

pub holds_from_1 : (sites : List SiteState) (sent : List Packet) → Holds sites sent → AreFrom1 sites
holds_from_1 sites sent h site origin x found =
    let held : HoldsAt sites site (Some x) = subst (HoldsAt sites site) found (h.each site) in senders_from_1 sites site origin x.senders held.senders
