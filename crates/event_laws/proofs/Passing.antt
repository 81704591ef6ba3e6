-- At every site what arrived can be passed: it rises, depends on what is earlier, and its pasts name others than its sender.
use Rattle.std.proofs.Common.{◌≡◌, ℕ, ◌<◌, ◌==◌, ◌+◌, List, [], ◌∷◌, length, Bool, true, false, cond, Some, None, refl, arith, subst}
use Rattle.std.specs.Prelude.{◌&&◌, not, nat_le, nat_lt, Option}
use Rattle.std.specs.List.{list_all, AllByRecursion}
use Rattle.std.specs.Ordering.{nat_cmp}
use Rattle.std.proofs.lemmas.Cmp.{nat_cmp_total}
use Rattle.std.specs.declared.cmp.Ordering.{Ordering}
use Rattle.std.specs.declared.cmp.Ordering.TheVariants.{Less, Equal, Greater}
use Rattle.rep_lists.specs.Rising.{put_at, put_here}
use Rattle.rep_lists.specs.RisingLaws.{RisesBy}
use Rattle.rep_lists.proofs.Rising.{rising_put, all_put}
use Rattle.rep_values.specs.declared.name.SiteName.{SiteName}
use Rattle.rep_schema.specs.declared.schema.Schema.{Schema}
use Rattle.rep_schema.specs.Shape.{HasShape}
use Rattle.rep_calls.specs.declared.call.Txn.{Txn}
use Rattle.rep_calls.specs.declared.past.PastEntry.{PastEntry}
use Rattle.deferred_queue.specs.Streams.{at_position}
use Rattle.rep_values.specs.SiteNames.{is_same_site}
use Rattle.deferred_queue.proofs.Sites.{is_same_site-true}
use Rattle.txn_effects.specs.declared.local.Here.{Here}
use Rattle.packet_code.specs.declared.packet.Packet.{Packet}
use Rattle.packet_code.specs.declared.packet.Packet.TheVariants.{Carry, Mark}
use Rattle.site_state.specs.declared.entry.Entry.{Entry}
use Rattle.site_state.specs.declared.entry.Entry.TheVariants.{Local, Done, Error, Executed, Dropped, Refreshed}
use Rattle.site_state.specs.declared.arrival.Arrival.{Arrival}
use Rattle.site_state.specs.State.{SenderState, SiteState, sender_of, at_sender, arrived_in, arrived_at, arrival_beside}
use Rattle.rep_schema.specs.Sites.{is_master_site}
use Rattle.site_state.specs.Arrivals.{NamesOthers}
use Rattle.site_state.specs.Streams.{with_one, went_onward, stream_to}
use Rattle.site_state.specs.Pasts.{beside_name, seen_of, with_seen, past_at, pasts_after, pasts_of}
use Rattle.site_state.specs.Packets.{past_in, stream_number, carry_of, packet_found, with_arrival, arrived_by, taken_unless, is_foreign, site_accept}
use Rattle.site_state.specs.Purges.{site_purge}
use Rattle.site_state.specs.Joining.{site_open}
use Rattle.site_state.proofs.Growing.{dep_at-earlier}
use Rattle.site_state.proofs.Stepping.{Steps}
use Rattle.site_events.specs.Cluster.{Cluster, site_of}
use Rattle.site_events.specs.Joins.{copied}
use Rattle.site_events.specs.Events.{Event, with_packet, packet_from, mark_from, receiver, run}
use Rattle.event_laws.specs.Starts.{IsNewSite, IsStart}
use Rattle.site_state.specs.DeclaredSites.{IsDeclared}
use Rattle.event_laws.specs.Declared.{AreDeclared}
use Rattle.event_laws.specs.PassLaws.{EverySiteCanPass}
use Rattle.event_laws.proofs.Sites.{found_all, all_at, all_joined, all_at_place}
use Rattle.event_laws.proofs.Happening.{IsRefreshed, Becomes, run_keeps}
use Rattle.event_laws.proofs.Happening as happening
use Rattle.event_laws.proofs.NewSites.{copied_is_new}
use Rattle.event_laws.proofs.RunInvariants.{SentBy, ArrivalHolds, SendersHold, HoldsAt}
use Rattle.event_laws.proofs.MarkLaws.{run_holds}
use Rattle.site_state.proofs.SchemaSites.{senders_of-others}
use Rattle.site_state.proofs.DeclaredSites.{origins}
use Rattle.event_laws.proofs.DeclaredSites.{IsSiteOf, becomes_sites_of, start_sites_of}

-- ---- what holds of each site, and of each packet

-- arrivals rise, and their pasts name others than the sender
pub record ArrivalsPass (s : SenderState) : Type 0 where
  pub rising : RisesBy (λ (a : Arrival). a.position) nat_cmp s.arrived
  pub others : AllByRecursion (λ (a : Arrival). NamesOthers s.origin a.past) s.arrived

abbrev pub SitePasses : SiteState → Type 0
SitePasses x = AllByRecursion ArrivalsPass x.senders

abbrev pub PacketPasses : Packet → Type 0
PacketPasses (Carry from to number position dep past txn) = NamesOthers from past
PacketPasses (Mark from to mark) = Unit {0}

pub record Passes (schema : Schema) (xs : List SiteState) (sent : List Packet) : Type 0 where
  pub sites_of : AllByRecursion (IsSiteOf schema) xs
  pub sites : AllByRecursion SitePasses xs
  pub packets : AllByRecursion PacketPasses sent

-- ---- a packet comes

put_passes : (a : Arrival) (s : SenderState) → NamesOthers s.origin a.past → ArrivalsPass s → ArrivalsPass (with_arrival a s)
put_passes a s names passes = record {
  rising = rising_put (λ (a : Arrival). a.position) nat_cmp nat_cmp_total a s.arrived passes.rising;
  others = all_put (arrival_beside a.position) (λ (a : Arrival). NamesOthers s.origin a.past) a s.arrived names passes.others;
}

arrived_put : (from : SiteName) (a : Arrival) (ss : List SenderState) → NamesOthers from a.past → AllByRecursion ArrivalsPass ss → AllByRecursion ArrivalsPass (at_sender from (with_arrival a) ss)
arrived_put from a [] names passes = tt
arrived_put from a (s ∷ ss) names passes = go (is_same_site s.origin from) refl (arrived_put from a ss names passes.1)
  where
    go : (b : Bool) → is_same_site s.origin from ≡ b → AllByRecursion ArrivalsPass (at_sender from (with_arrival a) ss) → AllByRecursion ArrivalsPass (cond b (with_arrival a s ∷ ss) (s ∷ at_sender from (with_arrival a) ss))
    go true is later = (put_passes a s (rw (is_same_site-true s.origin from is) names) passes.0, passes.1)
    go false is later = (passes.0, later)

accept_passes : (packet : Packet) (x : SiteState) → PacketPasses packet → SitePasses x → SitePasses (site_accept packet x)
accept_passes packet x is passes = go packet is (is_foreign packet x)
  where
    by : (from : SiteName) (a : Arrival) → NamesOthers from a.past → (found : Option Arrival) → SitePasses (arrived_by found from a x)
    by from a names None = arrived_put from a x.senders names passes
    by from a names (Some before) = passes

    go : (packet : Packet) → PacketPasses packet → (b : Bool) → SitePasses (taken_unless b packet x)
    go packet is true = passes
    go (Carry from to number position dep past txn) is false = by from _ is (arrived_at from position x.senders)
    go (Mark from to mark) is false = passes

-- ---- what is sent names others

not_false : (b : Bool) → b ≡ false → not b ≡ true
not_false true is = cc
not_false false is = refl

others_put : (site : SiteName) (at : PastEntry → Ordering) (y : PastEntry) (xs : List PastEntry) → is_same_site y.origin site ≡ false → NamesOthers site xs → NamesOthers site (put_at at y xs)
others_put site at y [] off names = rw off refl
others_put site at y (x ∷ xs) off names = go (at x) (is_same_site x.origin site) refl names (others_put site at y xs off)
  where
    go : (o : Ordering) (b : Bool) → is_same_site x.origin site ≡ b → (not b && list_all (λ (q : PastEntry). not (is_same_site q.origin site)) xs) ≡ true → (NamesOthers site xs → NamesOthers site (put_at at y xs))
        → NamesOthers site (put_here o y x xs (put_at at y xs))
    go o true is names later = cc
    go Less false is names later = rw is (later names)
    go Equal false is names later = rw off names
    go Greater false is names later = rw (off, is) names

abbrev AreOthers : SiteName → List SenderState → Type 0
AreOthers site ss = AllByRecursion (λ (s : SenderState). is_same_site s.origin site ≡ false) ss

past_others : (site : SiteName) (schema : Schema) (es : List Entry) (ss : List SenderState) → AreOthers site ss → NamesOthers site (past_at schema es ss)
past_others site schema es [] others = refl
past_others site schema es (s ∷ ss) others = go (is_master_site schema s.origin && nat_lt 0 (seen_of es s)) (past_others site schema es ss others.1)
  where
    go : (b : Bool) → NamesOthers site (past_at schema es ss) → NamesOthers site (with_seen b s.origin (seen_of es s) (past_at schema es ss))
    go true later = others_put site (beside_name s.origin) _ (past_at schema es ss) others.0 later
    go false later = later

one_others : (site : SiteName) (b : Bool) (past : List PastEntry) (pasts : List (List PastEntry)) → NamesOthers site past → AllByRecursion (NamesOthers site) pasts → AllByRecursion (NamesOthers site) (with_one b past pasts)
one_others site true past pasts is later = (is, later)
one_others site false past pasts is later = later

pasts_others : (here : Here) (schema : Schema) (ss : List SenderState) (es : List Entry) → AreOthers here.site ss → AllByRecursion (NamesOthers here.site) (pasts_after schema here ss es)
pasts_others here schema ss [] others = tt
pasts_others here schema ss (Local number txn ∷ es) others = (past_others here.site schema es ss others, pasts_others here schema ss es others)
pasts_others here schema ss (Done o p onward txn ∷ es) others = one_others here.site (went_onward here onward) _ _ (past_others here.site schema es ss others) (pasts_others here schema ss es others)
pasts_others here schema ss (Error o p call error txn ∷ es) others = pasts_others here schema ss es others
pasts_others here schema ss (Executed o p onward txn ∷ es) others = one_others here.site (went_onward here onward) _ _ (past_others here.site schema es ss others) (pasts_others here schema ss es others)
pasts_others here schema ss (Dropped o p ∷ es) others = pasts_others here schema ss es others
pasts_others here schema ss (Refreshed moment ∷ es) others = pasts_others here schema ss es others

found_others : (site : SiteName) (pasts : List (List PastEntry)) (n : ℕ) → AllByRecursion (NamesOthers site) pasts → NamesOthers site (past_in (at_position n pasts))
found_others site [] n others = refl
found_others site (p ∷ ps) n others = go (n == length ps + 1) (found_others site ps n others.1)
  where
    go : (b : Bool) → NamesOthers site (past_in (at_position n ps)) → NamesOthers site (past_in (cond b (Some p) (at_position n ps)))
    go true later = others.0
    go false later = later

of_senders : (site : SiteName) (ss : List SenderState) → AllByRecursion (λ (n : SiteName). is_same_site n site ≡ false) (origins ss) → AreOthers site ss
of_senders site [] others = tt
of_senders site (s ∷ ss) others = (others.0, of_senders site ss others.1)

senders_are_others : (schema : Schema) → HasShape schema → (x : SiteState) → IsDeclared schema x → AreOthers x.here.site x.senders
senders_are_others schema shape x declared = of_senders x.here.site x.senders (rw declared.senders (senders_of-others schema shape x.here.site))

module _ (schema : Schema) (shape : HasShape schema) where
  sends_pass : (sites : List SiteState) (sent : List Packet) (from to : SiteName) (position : ℕ) → Passes schema sites sent → Passes schema sites (with_packet (packet_from to position (site_of from sites)) sent)
  sends_pass sites sent from to position passes = by (site_of from sites) refl
    where
      kept : (x : SiteState) (txn : Txn) → IsSiteOf schema x → (b : Bool) → Passes schema sites (with_packet (cond b None (Some (carry_of to position x txn))) sent)
      kept x txn is true = passes
      kept x txn is false = record {
        sites_of = passes.sites_of;
        sites = passes.sites;
        packets = (found_others x.here.site (pasts_of x) (stream_number to position x) (pasts_others x.here x.schema x.senders x.journal (senders_are_others schema shape x is.declared)), passes.packets);
      }

      go : (x : SiteState) → IsSiteOf schema x → (t : Option Txn) → Passes schema sites (with_packet (packet_found to position x t) sent)
      go x is None = passes
      go x is (Some txn) = kept x txn is (nat_le (stream_number to position x) x.purged)

      by : (o : Option SiteState) → site_of from sites ≡ o → Passes schema sites (with_packet (packet_from to position o) sent)
      by None found = passes
      by (Some x) found = go x (found_all (IsSiteOf schema) from sites x passes.sites_of found) (at_position position (stream_to to x))

  marks_pass : (sites : List SiteState) (sent : List Packet) (from to : SiteName) → AllByRecursion PacketPasses sent → AllByRecursion PacketPasses (with_packet (mark_from to (site_of from sites)) sent)
  marks_pass sites sent from to passes = by (site_of from sites)
    where
      by : (o : Option SiteState) → AllByRecursion PacketPasses (with_packet (mark_from to o) sent)
      by None = passes
      by (Some x) = (tt, passes)

  steps_pass : (x y : SiteState) → Steps x y → SitePasses x → SitePasses y
  steps_pass x y s passes = rw s.senders passes

  refreshed_pass : (sites : List SiteState) (x y : SiteState) → IsRefreshed sites x y → SitePasses x → SitePasses y
  refreshed_pass sites x _ happening.Not passes = passes
  refreshed_pass sites x _ (happening.From master found is) passes = passes

  new_passes : (ss : List SenderState) → AllByRecursion (λ (s : SenderState). s.arrived ≡ []) ss → AllByRecursion ArrivalsPass ss
  new_passes [] none = tt
  new_passes (s ∷ ss) none = (record { rising = rw none.0 tt; others = rw none.0 tt }, new_passes ss none.1)

  becomes_pass : (xs : List SiteState) (sent : List Packet) (ys : List SiteState) (more : List Packet) → Becomes xs sent ys more → Passes schema xs sent → Passes schema ys more
  becomes_pass xs sent _ _ happening.Stays passes = passes
  becomes_pass xs sent ys _ (happening.Journalled name change steps) passes = record {
    sites_of = becomes_sites_of schema xs sent _ _ (happening.Journalled name change steps) passes.sites_of;
    sites = all_at SitePasses name change xs (λ x. steps_pass x (change x) (steps x)) passes.sites;
    packets = passes.packets;
  }
  becomes_pass xs sent _ _ (happening.Sends from to position) passes = sends_pass xs sent from to position passes
  becomes_pass xs sent _ _ (happening.Marks from to) passes = record { sites_of = passes.sites_of; sites = passes.sites; packets = marks_pass xs sent from to passes.packets }
  becomes_pass xs sent _ _ (happening.Delivers packet which is) passes = record {
    sites_of = becomes_sites_of schema xs sent _ _ (happening.Delivers packet which is) passes.sites_of;
    sites = all_at SitePasses (receiver packet) _ xs (λ x. accept_passes packet x (all_at_place PacketPasses sent which packet passes.packets is)) passes.sites;
    packets = passes.packets;
  }
  becomes_pass xs sent _ _ (happening.Purges name) passes = record {
    sites_of = becomes_sites_of schema xs sent _ _ (happening.Purges name) passes.sites_of;
    sites = all_at SitePasses name site_purge xs (λ x passes. passes) passes.sites;
    packets = passes.packets;
  }
  becomes_pass xs sent _ _ (happening.Refreshes name change refreshed) passes = record {
    sites_of = becomes_sites_of schema xs sent _ _ (happening.Refreshes name change refreshed) passes.sites_of;
    sites = all_at SitePasses name change xs (λ x. refreshed_pass xs x (change x) (refreshed x)) passes.sites;
    packets = passes.packets;
  }
  becomes_pass xs sent _ _ (happening.Joins site from source absent found may) passes = record {
    sites_of = becomes_sites_of schema xs sent _ _ (happening.Joins site from source absent found may) passes.sites_of;
    sites = all_joined SitePasses (site_open site) xs (copied xs source site) (λ x passes. passes) (new_passes (copied xs source site).senders (copied_is_new xs source site).arrived) passes.sites;
    packets = passes.packets;
  }

  start_passes : (sites : List SiteState) → AllByRecursion (IsNewSite schema) sites → AllByRecursion SitePasses sites
  start_passes [] new = tt
  start_passes (x ∷ xs) new = (new_passes x.senders new.0.arrived, start_passes xs new.1)

-- ---- the law

run_passes : (schema : Schema) (start : Cluster) (events : List Event) → IsStart schema start → AreDeclared schema start.sites → Passes schema (run events start).sites (run events start).sent
run_passes schema start events is declared = run_keeps (Passes schema) (becomes_pass schema declared.shape) events start (record {
  sites_of = start_sites_of schema start.sites is.sites declared.each;
  sites = start_passes schema declared.shape start.sites is.sites;
  packets = rw is.sent tt;
})

arrivals_pass : (origin : SiteName) (ss : List SenderState) → AllByRecursion ArrivalsPass ss → ArrivalsPass (record { origin = origin; first = 0; arrived = arrived_in (sender_of origin ss) })
arrivals_pass origin [] passes = record { rising = tt; others = tt }
arrivals_pass origin (s ∷ ss) passes = go (is_same_site s.origin origin) refl (arrivals_pass origin ss passes.1)
  where
    go : (b : Bool) → is_same_site s.origin origin ≡ b → ArrivalsPass (record { origin = origin; first = 0; arrived = arrived_in (sender_of origin ss) })
        → ArrivalsPass (record { origin = origin; first = 0; arrived = arrived_in (cond b (Some s) (sender_of origin ss)) })
    go true is later = record { rising = passes.0.rising; others = subst (λ (o : SiteName). AllByRecursion (λ (a : Arrival). NamesOthers o a.past) s.arrived) (is_same_site-true s.origin origin is) passes.0.others }
    go false is later = later

sent_earlier : (o : Option SiteState) (site : SiteName) (a : Arrival) → SentBy o site a.number a.position a.dep a.txn → a.dep < a.position
sent_earlier None site a sent = absurd sent
sent_earlier (Some y) site a sent = omega (arith, sent.dep_is, dep_at-earlier y.schema (stream_to site y) a.position a.txn sent.there)

all_earlier : (sites : List SiteState) (site origin : SiteName) (arrived : List Arrival) → AllByRecursion (ArrivalHolds sites site origin) arrived → AllByRecursion (λ (a : Arrival). a.dep < a.position) arrived
all_earlier sites site origin [] holds = tt
all_earlier sites site origin (a ∷ arrived) holds = (sent_earlier (site_of origin sites) site a holds.0, all_earlier sites site origin arrived holds.1)

arrivals_earlier : (sites : List SiteState) (site origin : SiteName) (ss : List SenderState) → SendersHold sites site ss → AllByRecursion (λ (a : Arrival). a.dep < a.position) (arrived_in (sender_of origin ss))
arrivals_earlier sites site origin [] holds = tt
arrivals_earlier sites site origin (s ∷ ss) holds = go (is_same_site s.origin origin) (arrivals_earlier sites site origin ss holds.1)
  where
    go : (b : Bool) → AllByRecursion (λ (a : Arrival). a.dep < a.position) (arrived_in (sender_of origin ss)) → AllByRecursion (λ (a : Arrival). a.dep < a.position) (arrived_in (cond b (Some s) (sender_of origin ss)))
    go true later = all_earlier sites site s.origin s.arrived holds.0
    go false later = later

pub every_site_can_pass : EverySiteCanPass
every_site_can_pass schema start events is declared site origin x found =
    let passes = run_passes schema start events is declared in
    let mine = arrivals_pass origin x.senders (found_all SitePasses site (run events start).sites x passes.sites found) in
    let held : HoldsAt (run events start).sites site (Some x) = subst (HoldsAt (run events start).sites site) found ((run_holds schema start events is).each site) in
    record { rising = mine.rising; earlier = arrivals_earlier (run events start).sites site origin x.senders held.senders; others = mine.others }
