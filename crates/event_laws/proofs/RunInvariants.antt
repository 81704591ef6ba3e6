-- What holds of the sites and of every packet that was ever sent.
use Rattle.std.proofs.Common.{◌≡◌, ℕ, ◌≤◌, List, [], ◌∷◌, Bool, true, false, cond, Some, None, refl, sym, arith, subst}
use Rattle.std.specs.Prelude.{Option, option_map}
use Rattle.std.specs.List.{AllByRecursion}
use Rattle.rep_lists.proofs.Rising.{all_put}
use Rattle.rep_values.specs.declared.name.SiteName.{SiteName}
use Rattle.rep_calls.specs.declared.call.Txn.{Txn}
use Rattle.rep_values.specs.SiteNames.{is_same_site}
use Rattle.deferred_queue.proofs.Sites.{is_same_site-true}
use Rattle.packet_code.specs.declared.packet.Packet.{Packet}
use Rattle.packet_code.specs.declared.packet.Packet.TheVariants.{Carry, Mark}
use Rattle.site_state.specs.declared.arrival.Arrival.{Arrival}
use Rattle.site_state.specs.State.{SenderState, SiteState, at_sender, arrival_beside, arrived_at, acked_of}
use Rattle.site_state.specs.Packets.{with_arrival, arrived_by, taken_unless, is_foreign, site_accept}
use Rattle.site_state.specs.Purges.{site_purge}
use Rattle.site_state.proofs.Stepping.{Later, later_same, Steps, steps_later, IsSent, sent_later, low_water-later}
use Rattle.site_state.proofs.Destinations.{acked_in-acknowledged}
use Rattle.site_state.proofs.Changing.{PurgedIsAcked, purged_kept, accept_later, accept_purged, purge_later, purge_purged}
use Rattle.site_events.specs.Cluster.{site_of, at_site}
use Rattle.event_laws.specs.Marks.{acked_at, low_at, MarksAreLow}
use Rattle.site_events.specs.Events.{receiver}
use Rattle.event_laws.proofs.Sites.{KeepsHere, at_split}

-- ---- what holds

-- a site that is there has sent it
abbrev pub SentBy : Option SiteState → SiteName → ℕ → ℕ → ℕ → Txn → Type 0
SentBy None to number position dep txn = ⊥
SentBy (Some x) to number position dep txn = IsSent x to number position dep txn

-- a packet has what its sender's stream has, or a mark that its sender has reached
abbrev pub PacketHolds : List SiteState → Packet → Type 0
PacketHolds sites (Carry from to number position dep past txn) = SentBy (site_of from sites) to number position dep txn
PacketHolds sites (Mark from to mark) = mark ≤ low_at to (site_of from sites)

-- what arrived from a sender has what its stream has
abbrev pub ArrivalHolds : List SiteState → SiteName → SiteName → Arrival → Type 0
ArrivalHolds sites site origin a = SentBy (site_of origin sites) site a.number a.position a.dep a.txn

abbrev pub SendersHold : List SiteState → SiteName → List SenderState → Type 0
SendersHold sites site senders = AllByRecursion (λ (s : SenderState). AllByRecursion (ArrivalHolds sites site s.origin) s.arrived) senders

-- a site has what was sent to it, and has purged what was acknowledged
pub record SiteHolds (sites : List SiteState) (site : SiteName) (x : SiteState) : Type 0 where
  pub senders : SendersHold sites site x.senders
  pub purged : PurgedIsAcked x

abbrev pub HoldsAt : List SiteState → SiteName → Option SiteState → Type 0
HoldsAt sites site None = Unit {0}
HoldsAt sites site (Some x) = SiteHolds sites site x

pub record Holds (sites : List SiteState) (sent : List Packet) : Type 0 where
  pub packets : AllByRecursion (PacketHolds sites) sent
  pub each : (site : SiteName) → HoldsAt sites site (site_of site sites)
  pub low : MarksAreLow sites

-- ---- it goes on to hold where sites only have more

abbrev pub LaterIn : Option SiteState → Option SiteState → Type 0
LaterIn None y = Unit {0}
LaterIn (Some x) None = ⊥
LaterIn (Some x) (Some y) = Later x y

abbrev pub AllLater : List SiteState → List SiteState → Type 0
AllLater xs ys = (site : SiteName) → LaterIn (site_of site xs) (site_of site ys)

sent_by_later : (o u : Option SiteState) (to : SiteName) (number position dep : ℕ) (txn : Txn) → LaterIn o u → SentBy o to number position dep txn → SentBy u to number position dep txn
sent_by_later None u to number position dep txn later sent = absurd sent
sent_by_later (Some x) None to number position dep txn later sent = absurd later
sent_by_later (Some x) (Some y) to number position dep txn later sent = sent_later x y to number position dep txn later sent

pub low_at-later : (o u : Option SiteState) (origin : SiteName) → LaterIn o u → low_at origin o ≤ low_at origin u
low_at-later None u origin later = omega arith
low_at-later (Some x) None origin later = absurd later
low_at-later (Some x) (Some y) origin later = low_water-later origin x y later

pub packets_later : (xs ys : List SiteState) (sent : List Packet) → AllLater xs ys → AllByRecursion (PacketHolds xs) sent → AllByRecursion (PacketHolds ys) sent
packets_later xs ys [] later holds = tt
packets_later xs ys (Carry from to number position dep past txn ∷ sent) later holds =
    (sent_by_later (site_of from xs) (site_of from ys) to number position dep txn (later from) holds.0, packets_later xs ys sent later holds.1)
packets_later xs ys (Mark from to mark ∷ sent) later holds =
    (omega (arith, holds.0, low_at-later (site_of from xs) (site_of from ys) to (later from)), packets_later xs ys sent later holds.1)

arrivals_later : (xs ys : List SiteState) (site origin : SiteName) (arrived : List Arrival) → AllLater xs ys → AllByRecursion (ArrivalHolds xs site origin) arrived → AllByRecursion (ArrivalHolds ys site origin) arrived
arrivals_later xs ys site origin [] later holds = tt
arrivals_later xs ys site origin (a ∷ arrived) later holds =
    (sent_by_later (site_of origin xs) (site_of origin ys) site a.number a.position a.dep a.txn (later origin) holds.0, arrivals_later xs ys site origin arrived later holds.1)

pub senders_later : (xs ys : List SiteState) (site : SiteName) (ss : List SenderState) → AllLater xs ys → SendersHold xs site ss → SendersHold ys site ss
senders_later xs ys site [] later holds = tt
senders_later xs ys site (s ∷ ss) later holds = (arrivals_later xs ys site s.origin s.arrived later holds.0, senders_later xs ys site ss later holds.1)

-- ---- a change of one site

-- what it owes
pub record Keeps (sites : List SiteState) (name : SiteName) (change : SiteState → SiteState) : Type 0 where
  pub later : (x : SiteState) → Later x (change x)
  pub senders : (x : SiteState) → SendersHold sites name x.senders → SendersHold sites name (change x).senders
  pub acked : (x : SiteState) (site : SiteName) → acked_of site x ≤ low_at name (site_of site sites) → acked_of site (change x) ≤ low_at name (site_of site sites)
  pub purged : (x : SiteState) → PurgedIsAcked x → PurgedIsAcked (change x)

later_map : (change : SiteState → SiteState) → ((x : SiteState) → Later x (change x)) → (o : Option SiteState) → LaterIn o (option_map change o)
later_map change later None = tt
later_map change later (Some x) = later x

later_in_same : (o : Option SiteState) → LaterIn o o
later_in_same None = tt
later_in_same (Some x) = later_same x

pub at_later : (sites : List SiteState) (name : SiteName) (change : SiteState → SiteState) → ((x : SiteState) → Later x (change x)) → AllLater sites (at_site name change sites)
at_later sites name change later site =
    at_split (LaterIn (site_of site sites)) name site change sites (λ x. (later x).here) (λ e. later_map change later (site_of site sites)) (later_in_same (site_of site sites))

pub holds_at : (sites : List SiteState) (sent : List Packet) (name : SiteName) (change : SiteState → SiteState) → Keeps sites name change → Holds sites sent → Holds (at_site name change sites) sent
holds_at sites sent name change keeps holds = record {
  packets = packets_later sites ys sent all holds.packets;
  each = λ site. at_split (HoldsAt ys site) name site change sites here (λ e. own site e (site_of site sites) (holds.each site)) (other site (site_of site sites) (holds.each site));
  low = λ origin site. omega (arith, low_at-later (site_of site sites) (site_of site ys) origin (all site), marks origin site);
}
  where
    ys : List SiteState
    ys = at_site name change sites

    all : AllLater sites ys
    all = at_later sites name change keeps.later

    here : KeepsHere change
    here x = (keeps.later x).here

    own : (site : SiteName) → name ≡ site → (o : Option SiteState) → HoldsAt sites site o → HoldsAt ys site (option_map change o)
    own site e None holds = tt
    own site e (Some x) holds = record {
      senders = senders_later sites ys site (change x).senders all
          (subst (λ (s : SiteName). SendersHold sites s (change x).senders) e (keeps.senders x (subst (λ (s : SiteName). SendersHold sites s x.senders) (sym e) holds.senders)));
      purged = keeps.purged x holds.purged;
    }

    other : (site : SiteName) (o : Option SiteState) → HoldsAt sites site o → HoldsAt ys site o
    other site None holds = tt
    other site (Some x) holds = record { senders = senders_later sites ys site x.senders all holds.senders; purged = holds.purged }

    own_marks : (site : SiteName) (o : Option SiteState) → acked_at site o ≤ low_at name (site_of site sites) → acked_at site (option_map change o) ≤ low_at name (site_of site sites)
    own_marks site None le = le
    own_marks site (Some x) le = keeps.acked x site le

    marks : (origin site : SiteName) → acked_at site (site_of origin ys) ≤ low_at origin (site_of site sites)
    marks origin site = at_split (λ o. acked_at site o ≤ low_at origin (site_of site sites)) name origin change sites here
        (λ e. subst (λ (s : SiteName). acked_at site (option_map change (site_of s sites)) ≤ low_at s (site_of site sites)) e (own_marks site (site_of name sites) (holds.low name site)))
        (holds.low origin site)

-- a call that only journals
pub steps_keep : (sites : List SiteState) (name : SiteName) (change : SiteState → SiteState) → ((x : SiteState) → Steps x (change x)) → Keeps sites name change
steps_keep sites name change steps = record {
  later = λ x. steps_later x (change x) (steps x);
  senders = λ x holds. rw (steps x).senders holds;
  acked = λ x site le. rw (steps x).destinations le;
  purged = λ x is. purged_kept x (change x) (steps_later x (change x) (steps x)) (steps x).purged (steps x).destinations is;
}

pub purge_keeps : (sites : List SiteState) (name : SiteName) → Keeps sites name site_purge
purge_keeps sites name = record { later = purge_later; senders = λ x holds. holds; acked = λ x site le. le; purged = purge_purged }

-- ---- a packet that comes

senders_put : (sites : List SiteState) (site from : SiteName) (a : Arrival) (ss : List SenderState) → ArrivalHolds sites site from a → SendersHold sites site ss
    → SendersHold sites site (at_sender from (with_arrival a) ss)
senders_put sites site from a [] is holds = tt
senders_put sites site from a (s ∷ ss) is holds = go (is_same_site s.origin from) refl (senders_put sites site from a ss is holds.1)
  where
    go : (b : Bool) → is_same_site s.origin from ≡ b → SendersHold sites site (at_sender from (with_arrival a) ss) → SendersHold sites site (cond b (with_arrival a s ∷ ss) (s ∷ at_sender from (with_arrival a) ss))
    go true same later = (all_put (arrival_beside a.position) (ArrivalHolds sites site s.origin) a s.arrived (rw (is_same_site-true s.origin from same) is) holds.0, holds.1)
    go false same later = (holds.0, later)

pub accept_keeps : (sites : List SiteState) (packet : Packet) → PacketHolds sites packet → Keeps sites (receiver packet) (site_accept packet)
accept_keeps sites (Carry from to number position dep past txn) is = record {
  later = accept_later (Carry from to number position dep past txn);
  senders = λ x holds. senders x holds (is_foreign (Carry from to number position dep past txn) x);
  acked = λ x site le. acked x site le (is_foreign (Carry from to number position dep past txn) x);
  purged = accept_purged (Carry from to number position dep past txn);
}
  where
    a : Arrival
    a = record { position = position; number = number; dep = dep; past = past; txn = txn }

    senders : (x : SiteState) → SendersHold sites to x.senders → (b : Bool) → SendersHold sites to (taken_unless b (Carry from to number position dep past txn) x).senders
    senders x holds true = holds
    senders x holds false = by (arrived_at from position x.senders)
      where
        by : (found : Option Arrival) → SendersHold sites to (arrived_by found from a x).senders
        by None = senders_put sites to from a x.senders is holds
        by (Some before) = holds

    acked : (x : SiteState) (site : SiteName) → acked_of site x ≤ low_at to (site_of site sites) → (b : Bool) → acked_of site (taken_unless b (Carry from to number position dep past txn) x) ≤ low_at to (site_of site sites)
    acked x site le true = le
    acked x site le false = by (arrived_at from position x.senders)
      where
        by : (found : Option Arrival) → acked_of site (arrived_by found from a x) ≤ low_at to (site_of site sites)
        by None = le
        by (Some before) = le
accept_keeps sites (Mark from to mark) is = record {
  later = accept_later (Mark from to mark);
  senders = λ x holds. senders x holds (is_foreign (Mark from to mark) x);
  acked = λ x site le. acked x site le (is_foreign (Mark from to mark) x);
  purged = accept_purged (Mark from to mark);
}
  where
    senders : (x : SiteState) → SendersHold sites to x.senders → (b : Bool) → SendersHold sites to (taken_unless b (Mark from to mark) x).senders
    senders x holds true = holds
    senders x holds false = holds

    acked : (x : SiteState) (site : SiteName) → acked_of site x ≤ low_at to (site_of site sites) → (b : Bool) → acked_of site (taken_unless b (Mark from to mark) x) ≤ low_at to (site_of site sites)
    acked x site le true = le
    acked x site le false = acked_in-acknowledged site from mark (low_at to (site_of site sites)) x.destinations (λ (same : from ≡ site). subst (λ (s : SiteName). mark ≤ low_at to (site_of s sites)) same is) le
