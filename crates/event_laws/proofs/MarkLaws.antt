-- The marks, purges and dependency numbers of every run.
use Rattle.std.proofs.Common.{◌≡◌, ℕ, ◌+◌, ◌-◌, ◌<◌, ◌≤◌, List, [], ◌∷◌, Bool, true, false, cond, Some, None, refl, sym, ap, ◌∙◌, arith, subst}
use Rattle.std.specs.Prelude.{Option, option_map, nat_le}
use Rattle.std.specs.List.{AllByRecursion}
use Rattle.std.specs.declared.cmp.Ordering.{Ordering}
use Rattle.std.specs.declared.cmp.Ordering.TheVariants.{Less, Equal, Greater}
use Rattle.rep_lists.specs.Rising.{find_at, found_here}
use Rattle.rep_values.specs.declared.name.SiteName.{SiteName}
use Rattle.rep_schema.specs.declared.schema.Schema.{Schema}
use Rattle.rep_calls.specs.declared.call.Txn.{Txn}
use Rattle.deferred_queue.specs.Streams.{at_position}
use Rattle.rep_values.specs.SiteNames.{is_same_site}
use Rattle.deferred_queue.proofs.Sites.{is_same_site-true}
use Rattle.packet_code.specs.declared.packet.Packet.{Packet}
use Rattle.site_state.specs.declared.arrival.Arrival.{Arrival}
use Rattle.site_state.specs.State.{SenderState, SiteState, sender_of, arrived_in, arrived_at, arrivals, arrival_beside, opened_of, acked_of}
use Rattle.site_state.specs.Journal.{finished, low_water}
use Rattle.site_state.specs.Streams.{queue_of, stream_in, stream_to, dep_at, shares}
use Rattle.site_state.specs.Packets.{count_opened, stream_number, carry_of, packet_found}
use Rattle.site_state.specs.Purges.{site_purge}
use Rattle.site_state.specs.Contents.{tables_of}
use Rattle.site_state.specs.Refreshes.{site_refresh}
use Rattle.site_events.specs.Rules.{rows_ruled}
use Rattle.site_state.specs.Joining.{site_open}
use Rattle.site_state.proofs.LowWater.{low_water-below}
use Rattle.site_state.proofs.Growing.{dep_at-covers}
use Rattle.site_state.proofs.Stepping.{Later, later_same, steps_later, IsSent, found_at}
use Rattle.site_state.proofs.Destinations.{acked_in-opened}
use Rattle.site_state.proofs.Changing.{PurgedIsAcked, purged_kept, accept_later, purge_later, refresh_later, open_later, open_purged}
use Rattle.site_events.specs.Cluster.{Cluster, site_of}
use Rattle.site_events.specs.Joins.{with_joined, copied}
use Rattle.site_events.specs.Events.{Event, with_packet, packet_from, mark_from, receiver, run}
use Rattle.event_laws.specs.Starts.{IsNewSite, IsStart, InEveryRun}
use Rattle.event_laws.specs.Marks.{journal_in, acked_at, low_at, MarksAreLow, PurgedIsFinished, AreWellNumbered}
use Rattle.event_laws.proofs.Sites.{found_or, site_of-joined, found_again, found_all, all_at, all_joined, all_at_place}
use Rattle.event_laws.proofs.Happening.{IsRefreshed, Becomes, run_keeps}
use Rattle.event_laws.proofs.Happening as happening
use Rattle.event_laws.proofs.RunInvariants.{SentBy, PacketHolds, ArrivalHolds, SendersHold, SiteHolds, HoldsAt, Holds, LaterIn, AllLater, Keeps, low_at-later, packets_later, senders_later, holds_at, steps_keep, purge_keeps, accept_keeps}
use Rattle.event_laws.proofs.NewSites.{copied_is_new, start_is_new}

-- ---- what is sent

-- what stands at a position of a stream is sent with its number and its dependency number
sent_from : (to : SiteName) (position : ℕ) (x : SiteState) (txn : Txn) → at_position position (stream_to to x) ≡ Some txn → IsSent x to (stream_number to position x) position (dep_at x.schema position (stream_to to x)) txn
sent_from to position x txn there = go (opened_of to x) refl
  where
    go : (o : Option ℕ) → opened_of to x ≡ o → IsSent x to (stream_number to position x) position (dep_at x.schema position (stream_to to x)) txn
    go None is = let none : at_position position (stream_in None (queue_of x)) ≡ Some txn = rw is at there in absurd (cc none)
    go (Some count) is = record { count = count; opened = is; there = there; dep_is = refl; number_is = ap (λ o. count_opened o + position) is }

sends_hold : (sites : List SiteState) (sent : List Packet) (from to : SiteName) (position : ℕ) → Holds sites sent → Holds sites (with_packet (packet_from to position (site_of from sites)) sent)
sends_hold sites sent from to position holds = by (site_of from sites) refl
  where
    kept : (x : SiteState) (txn : Txn) → site_of from sites ≡ Some x → at_position position (stream_to to x) ≡ Some txn → (b : Bool) → Holds sites (with_packet (cond b None (Some (carry_of to position x txn))) sent)
    kept x txn found there true = holds
    kept x txn found there false = record {
      packets = (subst (λ (o : Option SiteState). SentBy o to (stream_number to position x) position (dep_at x.schema position (stream_to to x)) txn) (sym (found_again from sites x found)) (sent_from to position x txn there), holds.packets);
      each = holds.each;
      low = holds.low;
    }

    go : (x : SiteState) → site_of from sites ≡ Some x → (t : Option Txn) → at_position position (stream_to to x) ≡ t → Holds sites (with_packet (packet_found to position x t) sent)
    go x found None there = holds
    go x found (Some txn) there = kept x txn found there (nat_le (stream_number to position x) x.purged)

    by : (o : Option SiteState) → site_of from sites ≡ o → Holds sites (with_packet (packet_from to position o) sent)
    by None found = holds
    by (Some x) found = go x found (at_position position (stream_to to x)) refl

marks_hold : (sites : List SiteState) (sent : List Packet) (from to : SiteName) → Holds sites sent → Holds sites (with_packet (mark_from to (site_of from sites)) sent)
marks_hold sites sent from to holds = by (site_of from sites) refl
  where
    by : (o : Option SiteState) → site_of from sites ≡ o → Holds sites (with_packet (mark_from to o) sent)
    by None found = holds
    by (Some x) found = record {
      packets = (subst (λ (o : Option SiteState). low_water to x.journal ≤ low_at to o) (sym (found_again from sites x found)) (omega arith), holds.packets);
      each = holds.each;
      low = holds.low;
    }

-- ---- a refresh

pub refreshed_later : (sites : List SiteState) (x y : SiteState) → IsRefreshed sites x y → Later x y
refreshed_later sites x _ happening.Not = later_same x
refreshed_later sites x _ (happening.From master found is) = refresh_later (rows_ruled x.schema (tables_of master) x.snapshots) master.moment x is

refreshed_keeps : (sites : List SiteState) (name : SiteName) (change : SiteState → SiteState) → ((x : SiteState) → IsRefreshed sites x (change x)) → Keeps sites name change
refreshed_keeps sites name change refreshed = record {
  later = λ x. refreshed_later sites x (change x) (refreshed x);
  senders = λ x. senders x (change x) (refreshed x);
  acked = λ x site. acked x (change x) site (refreshed x);
  purged = λ x. purged x (change x) (refreshed x);
}
  where
    senders : (x y : SiteState) → IsRefreshed sites x y → SendersHold sites name x.senders → SendersHold sites name y.senders
    senders x _ happening.Not holds = holds
    senders x _ (happening.From master found is) holds = holds

    acked : (x y : SiteState) (site : SiteName) → IsRefreshed sites x y → acked_of site x ≤ low_at name (site_of site sites) → acked_of site y ≤ low_at name (site_of site sites)
    acked x _ site happening.Not le = le
    acked x _ site (happening.From master found is) le = le

    purged : (x y : SiteState) → IsRefreshed sites x y → PurgedIsAcked x → PurgedIsAcked y
    purged x _ happening.Not holds = holds
    purged x _ (happening.From master found is) holds =
        purged_kept x (site_refresh (rows_ruled x.schema (tables_of master) x.snapshots) master.moment x) (refresh_later (rows_ruled x.schema (tables_of master) x.snapshots) master.moment x is) refl refl holds

-- ---- new sites, and one that joins

new_senders : (sites : List SiteState) (site : SiteName) (ss : List SenderState) → AllByRecursion (λ (s : SenderState). s.arrived ≡ []) ss → SendersHold sites site ss
new_senders sites site [] none = tt
new_senders sites site (s ∷ ss) none = (rw none.0 tt, new_senders sites site ss none.1)

new_holds : (schema : Schema) (sites : List SiteState) (name : SiteName) (x : SiteState) → IsNewSite schema x → SiteHolds sites name x
new_holds schema sites name x new = record {
  senders = new_senders sites name x.senders new.arrived;
  purged = record { within = rw new.purged (omega arith); acked = λ site count opened. rw new.purged (omega arith) };
}

pub joined_later : (sites : List SiteState) (source : SiteState) (site : SiteName) → AllLater sites (with_joined sites source site)
joined_later sites source site name = rw (site_of-joined name (site_open site) sites (copied sites source site) (λ x. refl)) (later (site_of name (copied sites source site ∷ [])) (site_of name sites))
  where
    later : (other o : Option SiteState) → LaterIn o (found_or other (option_map (site_open site) o))
    later other None = tt
    later other (Some x) = open_later site x

joined_holds : (sites : List SiteState) (sent : List Packet) (site : SiteName) (source : SiteState) → Holds sites sent → Holds (with_joined sites source site) sent
joined_holds sites sent site source holds = record {
  packets = packets_later sites ys sent all holds.packets;
  each = λ name. rw (found name) (held name (site_of name sites) (holds.each name));
  low = λ origin name. omega (arith, marks origin name, low_at-later (site_of name sites) (site_of name ys) origin (all name));
}
  where
    new : SiteState
    new = copied sites source site

    ys : List SiteState
    ys = with_joined sites source site

    found : (name : SiteName) → site_of name ys ≡ found_or (site_of name (new ∷ [])) (option_map (site_open site) (site_of name sites))
    found name = site_of-joined name (site_open site) sites new (λ x. refl)

    all : AllLater sites ys
    all = joined_later sites source site

    new_held : (name : SiteName) (b : Bool) → HoldsAt ys name (cond b (Some new) None)
    new_held name true = new_holds source.schema ys name new (copied_is_new sites source site)
    new_held name false = tt

    held : (name : SiteName) (o : Option SiteState) → HoldsAt sites name o → HoldsAt ys name (found_or (site_of name (new ∷ [])) (option_map (site_open site) o))
    held name None holds = new_held name (is_same_site new.here.site name)
    held name (Some x) holds = record { senders = senders_later sites ys name x.senders all holds.senders; purged = open_purged site x holds.purged }

    new_marks : (name : SiteName) (n : ℕ) (b : Bool) → acked_at name (cond b (Some new) None) ≤ n
    new_marks name n true = rw ((copied_is_new sites source site).acked name) (omega arith)
    new_marks name n false = omega arith

    marks_by : (origin name : SiteName) (n : ℕ) (o : Option SiteState) → acked_at name o ≤ n → acked_at name (found_or (site_of origin (new ∷ [])) (option_map (site_open site) o)) ≤ n
    marks_by origin name n None le = new_marks name n (is_same_site new.here.site origin)
    marks_by origin name n (Some x) le = rw (acked_in-opened name site _ x.destinations) le

    marks : (origin name : SiteName) → acked_at name (site_of origin ys) ≤ low_at origin (site_of name sites)
    marks origin name = rw (found origin) (marks_by origin name _ (site_of origin sites) (holds.low origin name))

-- ---- every event

pub becomes_holds : (xs : List SiteState) (sent : List Packet) (ys : List SiteState) (more : List Packet) → Becomes xs sent ys more → Holds xs sent → Holds ys more
becomes_holds xs sent _ _ happening.Stays holds = holds
becomes_holds xs sent _ _ (happening.Journalled name change steps) holds = holds_at xs sent name change (steps_keep xs name change steps) holds
becomes_holds xs sent _ _ (happening.Sends from to position) holds = sends_hold xs sent from to position holds
becomes_holds xs sent _ _ (happening.Marks from to) holds = marks_hold xs sent from to holds
becomes_holds xs sent _ _ (happening.Delivers packet which is) holds = holds_at xs sent (receiver packet) _ (accept_keeps xs packet (all_at_place (PacketHolds xs) sent which packet holds.packets is)) holds
becomes_holds xs sent _ _ (happening.Purges name) holds = holds_at xs sent name site_purge (purge_keeps xs name) holds
becomes_holds xs sent _ _ (happening.Refreshes name change refreshed) holds = holds_at xs sent name change (refreshed_keeps xs name change refreshed) holds
becomes_holds xs sent _ _ (happening.Joins site from source absent found may) holds = joined_holds xs sent site source holds

pub start_holds : (schema : Schema) (start : Cluster) → IsStart schema start → Holds start.sites start.sent
start_holds schema start is = record {
  packets = rw is.sent tt;
  each = λ site. start_is_new schema (HoldsAt start.sites site) start.sites site tt (λ x new. new_holds schema start.sites site x new) is.sites;
  low = λ origin site. start_is_new schema (λ o. acked_at site o ≤ low_at origin (site_of site start.sites)) start.sites origin (omega arith) (λ x new. rw (new.acked site) (omega arith)) is.sites;
}

pub run_holds : (schema : Schema) (start : Cluster) (events : List Event) → IsStart schema start → Holds (run events start).sites (run events start).sent
run_holds schema start events is = run_keeps Holds becomes_holds events start (start_holds schema start is)

-- ---- what holds of each site and stays

-- what a site has later too, and one that joins as a copy of another one
pub record Stays (P : SiteState → Type 0) : Type 0 where
  pub later : (x y : SiteState) → Later x y → P x → P y
  pub copied_too : (sites : List SiteState) (source : SiteState) (site : SiteName) → P source → P (copied sites source site)

pub becomes_all : (P : SiteState → Type 0) → Stays P → (xs : List SiteState) (sent : List Packet) (ys : List SiteState) (more : List Packet) → Becomes xs sent ys more → AllByRecursion P xs → AllByRecursion P ys
becomes_all P stays xs sent _ _ happening.Stays all = all
becomes_all P stays xs sent _ _ (happening.Journalled name change steps) all = all_at P name change xs (λ x. stays.later x (change x) (steps_later x (change x) (steps x))) all
becomes_all P stays xs sent _ _ (happening.Sends from to position) all = all
becomes_all P stays xs sent _ _ (happening.Marks from to) all = all
becomes_all P stays xs sent _ _ (happening.Delivers packet which is) all = all_at P (receiver packet) _ xs (λ x. stays.later x _ (accept_later packet x)) all
becomes_all P stays xs sent _ _ (happening.Purges name) all = all_at P name site_purge xs (λ x. stays.later x _ (purge_later x)) all
becomes_all P stays xs sent _ _ (happening.Refreshes name change refreshed) all = all_at P name change xs (λ x. stays.later x (change x) (refreshed_later xs x (change x) (refreshed x))) all
becomes_all P stays xs sent _ _ (happening.Joins site from source absent found may) all =
    all_joined P (site_open site) xs (copied xs source site) (λ x. stays.later x _ (open_later site x)) (stays.copied_too xs source site (found_all P from xs source all found)) all

abbrev pub IsOfSchema : Schema → SiteState → Type 0
IsOfSchema schema x = x.schema ≡ schema

schema_stays : (schema : Schema) → Stays (IsOfSchema schema)
schema_stays schema = record {
  later = λ x y later is. later.schema ∙ is;
  copied_too = λ sites source site is. (copied_is_new sites source site).schema_is ∙ is;
}

start_schema : (schema : Schema) (sites : List SiteState) → AllByRecursion (IsNewSite schema) sites → AllByRecursion (IsOfSchema schema) sites
start_schema schema [] all = tt
start_schema schema (x ∷ xs) all = (all.0.schema_is, start_schema schema xs all.1)

pub run_schema : (schema : Schema) (start : Cluster) (events : List Event) → IsStart schema start → AllByRecursion (IsOfSchema schema) (run events start).sites
run_schema schema start events is =
    run_keeps (λ xs sent. AllByRecursion (IsOfSchema schema) xs) (becomes_all (IsOfSchema schema) (schema_stays schema)) events start (start_schema schema start.sites is.sites)

-- ---- what arrived was sent

find_holds : {X : Type 0} (P : X → Type 0) (at : X → Ordering) (xs : List X) (x : X) → AllByRecursion P xs → find_at at xs ≡ Some x → P x
find_holds P at [] x all found = absurd (cc found)
find_holds P at (y ∷ ys) x all found = go (at y) (find_holds P at ys x all.1) found
  where
    go : (o : Ordering) → (find_at at ys ≡ Some x → P x) → found_here o y (find_at at ys) ≡ Some x → P x
    go Less later found = later found
    go Equal later found = let same : y ≡ x = cc found in rw (← same) all.0
    go Greater later found = absurd (cc found)

pub arrived_was_sent : (sites : List SiteState) (site origin : SiteName) (ss : List SenderState) (p : ℕ) (a : Arrival) → SendersHold sites site ss → arrived_at origin p ss ≡ Some a
    → SentBy (site_of origin sites) site a.number a.position a.dep a.txn
arrived_was_sent sites site origin [] p a holds found = absurd (cc found)
arrived_was_sent sites site origin (s ∷ ss) p a holds found = go (is_same_site s.origin origin) refl (arrived_was_sent sites site origin ss p a holds.1) found
  where
    go : (b : Bool) → is_same_site s.origin origin ≡ b → (arrived_at origin p ss ≡ Some a → SentBy (site_of origin sites) site a.number a.position a.dep a.txn)
        → find_at (arrival_beside p) (arrived_in (cond b (Some s) (sender_of origin ss))) ≡ Some a → SentBy (site_of origin sites) site a.number a.position a.dep a.txn
    go true is later found =
        subst (λ (o : SiteName). SentBy (site_of o sites) site a.number a.position a.dep a.txn) (is_same_site-true s.origin origin is) (find_holds (ArrivalHolds sites site s.origin) (arrival_beside p) s.arrived a holds.0 found)
    go false is later found = later found

-- ---- the laws

pub marks_are_low : InEveryRun MarksAreLow
marks_are_low schema start events is = (run_holds schema start events is).low

purged_finished : (sites : List SiteState) (origin site : SiteName) (x : SiteState) (opened number : ℕ) → HoldsAt sites origin (Some x) → acked_at site (Some x) ≤ low_at origin (site_of site sites)
    → opened_of site x ≡ Some opened → opened < number → number ≤ x.purged → finished origin (journal_in (site_of site sites)) (number - opened) ≡ true
purged_finished sites origin site x opened number holds low is above below =
    low_water-below origin (journal_in (site_of site sites)) (number - opened) (omega (arith, above)) (omega (arith, holds.purged.acked site opened is, low, below))

pub purged_is_finished : InEveryRun PurgedIsFinished
purged_is_finished schema start events is origin site x opened number found opened_is above below =
    let holds = run_holds schema start events is in
    let sites : List SiteState = (run events start).sites in
    purged_finished sites origin site x opened number (subst (HoldsAt sites origin) found (holds.each origin))
    (subst (λ (o : Option SiteState). acked_at site o ≤ low_at origin (site_of site sites)) found (holds.low origin site)) opened_is above below

numbered_by : (site : SiteName) (o : SiteState) (p q : ℕ) (a b : Arrival) → a.position ≡ p → b.position ≡ q → IsSent o site a.number a.position a.dep a.txn → IsSent o site b.number b.position b.dep b.txn
    → p < q → shares o.schema b.txn a.txn ≡ true → p ≤ b.dep
numbered_by site o p q a b at_a at_b sent_a sent_b less shared =
    omega (arith, at_a, sent_b.dep_is, dep_at-covers o.schema (stream_to site o) a.position b.position a.txn b.txn sent_a.there sent_b.there (omega (arith, less, at_a, at_b)) shared)

pub are_well_numbered : (schema : Schema) (w : Cluster) → AllByRecursion (IsOfSchema schema) w.sites → Holds w.sites w.sent → AreWellNumbered w.sites
are_well_numbered schema w of_schema holds site origin x found p q a b at_a at_b less shared =
    go (site_of origin w.sites) refl (arrived_was_sent w.sites site origin x.senders p a held.senders at_a) (arrived_was_sent w.sites site origin x.senders q b held.senders at_b)
  where
    held : SiteHolds w.sites site x
    held = subst (HoldsAt w.sites site) found (holds.each site)

    go : (o : Option SiteState) → site_of origin w.sites ≡ o → SentBy o site a.number a.position a.dep a.txn → SentBy o site b.number b.position b.dep b.txn → p ≤ b.dep
    go None there sent_a sent_b = absurd sent_a
    go (Some o) there sent_a sent_b =
        let same : x.schema ≡ o.schema = found_all (IsOfSchema schema) site w.sites x of_schema found ∙ sym (found_all (IsOfSchema schema) origin w.sites o of_schema there) in
        numbered_by site o p q a b (found_at p (arrivals origin x) a at_a) (found_at q (arrivals origin x) b at_b) sent_a sent_b less (subst (λ s. shares s b.txn a.txn ≡ true) same shared)

pub arrivals_are_well_numbered : InEveryRun AreWellNumbered
arrivals_are_well_numbered schema start events is = are_well_numbered schema (run events start) (run_schema schema start events is) (run_holds schema start events is)
