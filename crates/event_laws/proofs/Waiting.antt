-- Where all has arrived and passes finish nothing, all that was queued is finished: by the order in which it was queued.
use Rattle.std.proofs.Common.{◌≡◌, ◌≢◌, ℕ, ◌+◌, ◌-◌, ◌<◌, ◌≤◌, ◌==◌, List, [], ◌∷◌, ◌++◌, length, Bool, true, false, max, cond, Some, None, refl, sym, ap, ◌∙◌, arith, subst, inl, inr, append_assoc, length-append}
use Rattle.std.specs.Prelude.{◌||◌, ◌&&◌, ◌⊎◌, nat_le, nat_lt, Option, option_map, IfSome, is_some, Result, Ok, Err}
use Rattle.std.specs.List.{list_all, AllByRecursion}
use Rattle.std.proofs.lemmas.Bool.Decides.{nat_tests}
use Rattle.std.specs.declared.cmp.Ordering.{Ordering}
use Rattle.std.specs.declared.cmp.Ordering.TheVariants.{Less, Equal, Greater}
use Rattle.rep_lists.specs.Rising.{find_at, found_here}
use Rattle.rep_lists.proofs.Rising.{all_put}
use Rattle.rep_values.specs.declared.name.SiteName.{SiteName}
use Rattle.rep_schema.specs.declared.schema.Schema.{Schema}
use Rattle.rep_schema.specs.Shape.{HasShape}
use Rattle.rep_calls.specs.declared.call.Txn.{Txn}
use Rattle.rep_calls.specs.declared.past.PastEntry.{PastEntry}
use Rattle.txn_effects.specs.Calls.{Effect}
use Rattle.txn_effects.specs.Transactions.{Failure}
use Rattle.deferred_queue.specs.Streams.{at_position}
use Rattle.rep_values.specs.SiteNames.{is_same_site}
use Rattle.deferred_queue.proofs.Sites.{is_same_site-true}
use Rattle.deferred_queue.proofs.Positions.{at_position-within, found_position}
use Rattle.packet_code.specs.declared.packet.Packet.{Packet}
use Rattle.site_state.specs.declared.entry.Entry.{Entry}
use Rattle.site_state.specs.declared.answers.Why.{Why}
use Rattle.site_state.specs.declared.answers.Why.TheVariants as why
use Rattle.site_state.specs.declared.arrival.Arrival.{Arrival}
use Rattle.site_state.specs.State.{SenderState, SiteState, sender_of, arrived_in, first_in, arrival_beside, arrived_at, arrivals, opened_of}
use Rattle.rep_schema.specs.Sites.{is_master_site}
use Rattle.site_state.specs.Journal.{finished, low_water}
use Rattle.site_state.specs.Streams.{with_one, queue_of, count_of, queued_behind, stream_in, stream_to}
use Rattle.site_state.specs.Pasts.{greatest_finished, seen_of, with_seen, past_at, past_of, pasts_of, beside_name}
use Rattle.site_state.specs.Ready.{arrival_number, covered, is_covered, is_due, stale_of, is_ready}
use Rattle.site_state.specs.Steps.{begun}
use Rattle.site_state.specs.Passes.{effect_here, finished_by, site_apply, apply_each}
use Rattle.site_state.specs.Joining.{site_open}
use Rattle.site_state.proofs.LowWater.{low_water-greatest, low_water-below}
use Rattle.site_state.proofs.Growing.{IsFront, front_none, queued_behind-append, length-queued_behind, queued_behind-none, at_position-append, dep_at-earlier}
use Rattle.site_state.proofs.Stepping.{IsSent, arrived_has}
use Rattle.site_state.proofs.Destinations.{IsOpenedFrom}
use Rattle.site_state.proofs.Pasts.{length-pasts_after}
use Rattle.site_state.proofs.Queueing.{Adds, Opens, Queues, open_opens}
use Rattle.site_events.specs.Cluster.{Cluster, site_of}
use Rattle.site_events.specs.Joins.{copied, with_joined}
use Rattle.site_events.specs.Events.{Event, happens, run}
use Rattle.event_laws.specs.Starts.{IsNewSite, IsStart}
use Rattle.event_laws.specs.Waiting.{IsFirstNumber, AreFirsts, AbsentAreClosed, SitesLinkAsDeclared, IsDelivered, PassesFinishNothing, NothingWaits, NothingWaitsForEver}
use Rattle.event_laws.proofs.Sites.{found_or, site_of-joined, all_at_place}
use Rattle.event_laws.proofs.Happening.{Becomes, happens_becomes, run_keeps}
use Rattle.event_laws.proofs.Happening as happening
use Rattle.event_laws.proofs.NewSites.{copied_is_new, start_is_new}
use Rattle.event_laws.proofs.RunInvariants.{SentBy, ArrivalHolds, SendersHold, SiteHolds, HoldsAt, Holds}
use Rattle.event_laws.proofs.MarkLaws.{becomes_holds, start_holds, arrived_was_sent}
use Rattle.event_laws.proofs.PassLaws.{Finishes, apply_finishes}
use Rattle.event_laws.proofs.PassLaws as passing
use Rattle.event_laws.proofs.DeclaredSites.{IsSiteOf, becomes_sites_of, start_sites_of}
use Rattle.event_laws.proofs.Meeting.{PastIs, PacketPast, is_known, EachArrival, SiteMeets, MeetsAt, Meets, AddsIn, AllAdd, all_add_same, at_adds, at_meets, steps_meet, accept_meets, purge_meets, refreshed_meets, sends_meet, marks_meet, still_closed, count_of-adds}
use Rattle.event_laws.proofs.JoinedMeets.{joined_meets, joined_closed}

-- ---- numbers that were queued

abbrev count_in : Option SiteState → ℕ
count_in None = 0
count_in (Some o) = count_of o

number_of_sent : (o : SiteState) (to : SiteName) (number position dep : ℕ) (txn : Txn) → IsSent o to number position dep txn → number ≤ count_of o
number_of_sent o to number position dep txn sent = go (nat_le sent.count (length (queue_of o))) refl
  where
    in_stream : at_position position (stream_in (Some sent.count) (queue_of o)) ≡ Some txn
    in_stream = subst (λ c. at_position position (stream_in c (queue_of o)) ≡ Some txn) sent.opened sent.there

    place : (1 ≤ position) × (position ≤ length (stream_in (Some sent.count) (queue_of o)))
    place = found_position position (stream_in (Some sent.count) (queue_of o)) txn in_stream

    go : (b : Bool) → nat_le sent.count (length (queue_of o)) ≡ b → number ≤ count_of o
    go true is = let within : sent.count ≤ length (queue_of o) = grind (arith, nat_tests) in omega (arith, sent.number_is, place.1, length-queued_behind sent.count (queue_of o) within)
    go false is =
        let above : length (queue_of o) ≤ sent.count = grind (arith, nat_tests) in
        absurd (omega (arith, place.0, place.1, ap length (queued_behind-none sent.count (queue_of o) above)))

first_queued : (o : Option SiteState) (site : SiteName) (first : ℕ) → IsFirstNumber o site first → first ≤ count_in o
first_queued None site first is = omega (arith, is)
first_queued (Some o) site first is = is.1

sent_queued : (o : Option SiteState) (to : SiteName) (number position dep : ℕ) (txn : Txn) → SentBy o to number position dep txn → number ≤ count_in o
sent_queued None to number position dep txn sent = absurd sent
sent_queued (Some o) to number position dep txn sent = number_of_sent o to number position dep txn sent

greatest_queued : (sites : List SiteState) (site origin : SiteName) (journal : List Entry) (arrived : List Arrival) → AllByRecursion (ArrivalHolds sites site origin) arrived
    → greatest_finished origin journal arrived ≤ count_in (site_of origin sites)
greatest_queued sites site origin journal [] holds = omega arith
greatest_queued sites site origin journal (a ∷ arrived) holds = go (finished origin journal a.position) (greatest_queued sites site origin journal arrived holds.1)
  where
    go : (b : Bool) → greatest_finished origin journal arrived ≤ count_in (site_of origin sites) → max (cond b a.number 0) (greatest_finished origin journal arrived) ≤ count_in (site_of origin sites)
    go true later = omega (arith, later, sent_queued (site_of origin sites) site a.number a.position a.dep a.txn holds.0)
    go false later = omega (arith, later)

-- what was seen of a master is a number from 1 that it has queued by then
record WasQueued (sites : List SiteState) (seen : PastEntry) : Type 0 where
  from_one : 0 < seen.number
  queued : seen.number ≤ count_in (site_of seen.origin sites)

past_queued : (sites : List SiteState) (site : SiteName) (schema : Schema) (journal : List Entry) (ss : List SenderState) → SendersHold sites site ss
    → AllByRecursion (λ (s : SenderState). IsFirstNumber (site_of s.origin sites) site s.first) ss → AllByRecursion (WasQueued sites) (past_at schema journal ss)
past_queued sites site schema journal [] holds firsts = tt
past_queued sites site schema journal (s ∷ ss) holds firsts = go (is_master_site schema s.origin) (nat_lt 0 (seen_of journal s)) refl (past_queued sites site schema journal ss holds.1 firsts.1)
  where
    go : (b c : Bool) → nat_lt 0 (seen_of journal s) ≡ c → AllByRecursion (WasQueued sites) (past_at schema journal ss)
        → AllByRecursion (WasQueued sites) (with_seen (b && c) s.origin (seen_of journal s) (past_at schema journal ss))
    go true true is later = all_put (beside_name s.origin) (WasQueued sites) _ (past_at schema journal ss) (record {
      from_one = grind (arith, nat_tests);
      queued = omega (arith, first_queued (site_of s.origin sites) site s.first firsts.0, greatest_queued sites site s.origin journal s.arrived holds.0);
    }) later
    go true false is later = later
    go false c is later = later

-- ---- from sites to the same ones later

-- a destination is open as it was, or it wasn't and is so from no lower count on
abbrev StaysOpen : ℕ → Option ℕ → Option ℕ → Type 0
StaysOpen count before after = (after ≡ before) ⊎ ((before ≡ None) × IfSome after (λ opened. count ≤ opened))

-- queues have more in front
record Onward (x y : SiteState) : Type 0 where
  queue : IsFront (queue_of y) (queue_of x)
  pasts : IsFront (pasts_of y) (pasts_of x)
  opened : (site : SiteName) → StaysOpen (count_of x) (opened_of site x) (opened_of site y)

abbrev OnwardIn : Option SiteState → Option SiteState → Type 0
OnwardIn None y = Unit {0}
OnwardIn (Some x) None = ⊥
OnwardIn (Some x) (Some y) = Onward x y

abbrev AllOnward : List SiteState → List SiteState → Type 0
AllOnward xs ys = (site : SiteName) → OnwardIn (site_of site xs) (site_of site ys)

-- one event; a site that comes has queued nothing
abbrev QueuesIn : Option SiteState → Option SiteState → Type 0
QueuesIn None None = Unit {0}
QueuesIn None (Some y) = queue_of y ≡ []
QueuesIn (Some x) None = ⊥
QueuesIn (Some x) (Some y) = Queues x y

abbrev AllQueue : List SiteState → List SiteState → Type 0
AllQueue xs ys = (site : SiteName) → QueuesIn (site_of site xs) (site_of site ys)

front_then : {X : Type 0} (b : Bool) (x : X) (zs ys xs : List X) → IsFront zs ys → ys ≡ with_one b x xs → IsFront zs xs
front_then true x zs ys xs more is = record { front = more.front ++ x ∷ []; is = more.is ∙ ap (λ l. more.front ++ l) is ∙ sym (append_assoc more.front (x ∷ []) xs) }
front_then false x zs ys xs more is = record { front = more.front; is = more.is ∙ ap (λ l. more.front ++ l) is }

weaker_count : (count more : ℕ) (after : Option ℕ) → count ≤ more → IfSome after (λ opened. more ≤ opened) → IfSome after (λ opened. count ≤ opened)
weaker_count count more None within is = tt
weaker_count count more (Some opened) within is = omega (arith, within, is)

adds_then : (x y z : SiteState) → Adds x y → Onward y z → Onward x z
adds_then x y z adds on = record {
  queue = front_then adds.queues adds.txn _ _ _ on.queue adds.queue;
  pasts = front_then adds.queues _ _ _ _ on.pasts adds.pasts;
  opened = λ site. elim (on.opened site) [
    | inl same ↦ inl (same ∙ adds.opened site)
    | inr later ↦ inr (sym (adds.opened site) ∙ later.0, weaker_count (count_of x) (count_of y) (opened_of site z) (count_of-adds x y adds) later.1)
  ];
}

opens_then : (x y z : SiteState) → Opens x y → Onward y z → Onward x z
opens_then x y z opens on = record {
  queue = record { front = on.queue.front; is = on.queue.is ∙ ap (λ l. on.queue.front ++ l) opens.queue };
  pasts = record { front = on.pasts.front; is = on.pasts.is ∙ ap (λ l. on.pasts.front ++ l) opens.pasts };
  opened = λ site. by site (opens.opened site) (on.opened site);
}
  where
    same_count : count_of y ≡ count_of x
    same_count = ap length opens.queue

    by : (site : SiteName) → IsOpenedFrom (count_of x) (opened_of site x) (opened_of site y) → StaysOpen (count_of y) (opened_of site y) (opened_of site z) → StaysOpen (count_of x) (opened_of site x) (opened_of site z)
    by site (inl same) (inl stays) = inl (stays ∙ same)
    by site (inl same) (inr later) = inr (sym same ∙ later.0, weaker_count (count_of x) (count_of y) (opened_of site z) (omega (arith, same_count)) later.1)
    by site (inr now) (inl stays) = inr (now.0, rw (stays ∙ now.1) (omega arith))
    by site (inr now) (inr later) = absurd (cc (now.1, later.0))

queues_then : (x y z : SiteState) → Queues x y → Onward y z → Onward x z
queues_then x y z (inl adds) on = adds_then x y z adds on
queues_then x y z (inr opens) on = opens_then x y z opens on

onward_before : (o u v : Option SiteState) → QueuesIn o u → OnwardIn u v → OnwardIn o v
onward_before None u v queues on = tt
onward_before (Some x) None v queues on = absurd queues
onward_before (Some x) (Some y) None queues on = absurd on
onward_before (Some x) (Some y) (Some z) queues on = queues_then x y z queues on

onward_same : (xs : List SiteState) → AllOnward xs xs
onward_same xs site = go (site_of site xs)
  where
    go : (o : Option SiteState) → OnwardIn o o
    go None = tt
    go (Some x) = record { queue = front_none _; pasts = front_none _; opened = λ s. inl refl }

-- what stands in a stream stands there later
onward_there : (site : SiteName) (x y : SiteState) (p : ℕ) (t : Txn) → Onward x y → at_position p (stream_to site x) ≡ Some t → at_position p (stream_to site y) ≡ Some t
onward_there site x y p t on there = go (opened_of site x) refl
  where
    go : (o : Option ℕ) → opened_of site x ≡ o → at_position p (stream_to site y) ≡ Some t
    go None is = let none : at_position p (stream_in None (queue_of x)) ≡ Some t = rw is at there in absurd (cc none)
    go (Some c) is =
        let old : at_position p (queued_behind c (queue_of x)) ≡ Some t = rw is at there in
        let more = queued_behind-append c on.queue.front (queue_of x) in
        let open_later : opened_of site y ≡ Some c = elim (on.opened site) [ inl same ↦ same ∙ is | inr later ↦ absurd (cc (later.0, is)) ] in
        rw (open_later, on.queue.is, more.is) (at_position-append more.front (queued_behind c (queue_of x)) p t old)

-- ---- what holds after every event, and how it queues

-- what is known of the sites and of what was sent
pub record AreMet (schema : Schema) (sites : List SiteState) (sent : List Packet) : Type 0 where
  pub sites_of : AllByRecursion (IsSiteOf schema) sites
  pub holds : Holds sites sent
  pub meets : Meets sites sent
  pub closed : AbsentAreClosed schema sites

module _ (schema : Schema) (shape : HasShape schema) where
  -- sites that add at most one transaction each
  added : (xs ys : List SiteState) → AllAdd xs ys → AllQueue xs ys
  added xs ys adds site = go (site_of site xs) (site_of site ys) (adds site)
    where
      go : (o u : Option SiteState) → AddsIn o u → QueuesIn o u
      go None None adds = tt
      go None (Some y) adds = absurd adds
      go (Some x) None adds = absurd adds
      go (Some x) (Some y) adds = inl adds

  joined_queues : (sites : List SiteState) (site : SiteName) (source : SiteState) → AllQueue sites (with_joined sites source site)
  joined_queues sites site source name = rw (site_of-joined name (site_open site) sites (copied sites source site) (λ x. refl)) (go (site_of name sites))
    where
      none_queued : queue_of (copied sites source site) ≡ []
      none_queued = rw (copied_is_new sites source site).journal refl

      new : (b : Bool) → QueuesIn None (cond b (Some (copied sites source site)) None)
      new true = none_queued
      new false = tt

      go : (o : Option SiteState) → QueuesIn o (found_or (site_of name (copied sites source site ∷ [])) (option_map (site_open site) o))
      go None = new (is_same_site (copied sites source site).here.site name)
      go (Some x) = inr (open_opens site x)

  becomes_queues : (xs : List SiteState) (sent : List Packet) (ys : List SiteState) (more : List Packet) → Becomes xs sent ys more → AreMet schema xs sent → AllQueue xs ys
  becomes_queues xs sent _ _ happening.Stays met = added xs xs (all_add_same xs)
  becomes_queues xs sent _ _ (happening.Journalled name change steps) met = added xs _ (at_adds xs name change (steps_meet xs name change steps) met.meets.each)
  becomes_queues xs sent _ _ (happening.Sends from to position) met = added xs xs (all_add_same xs)
  becomes_queues xs sent _ _ (happening.Marks from to) met = added xs xs (all_add_same xs)
  becomes_queues xs sent _ _ (happening.Delivers packet which is) met = added xs _ (at_adds xs _ _ (accept_meets xs packet (all_at_place (PacketPast xs) sent which packet met.meets.packets is)) met.meets.each)
  becomes_queues xs sent _ _ (happening.Purges name) met = added xs _ (at_adds xs name _ (purge_meets xs name) met.meets.each)
  becomes_queues xs sent _ _ (happening.Refreshes name change refreshed) met = added xs _ (at_adds xs name change (refreshed_meets xs name change refreshed) met.meets.each)
  becomes_queues xs sent _ _ (happening.Joins site from source absent found may) met = joined_queues xs site source

  becomes_meets : (xs : List SiteState) (sent : List Packet) (ys : List SiteState) (more : List Packet) → Becomes xs sent ys more → AreMet schema xs sent → Meets ys more
  becomes_meets xs sent _ _ happening.Stays met = met.meets
  becomes_meets xs sent _ _ (happening.Journalled name change steps) met = at_meets xs sent name change (steps_meet xs name change steps) met.meets
  becomes_meets xs sent _ _ (happening.Sends from to position) met = sends_meet xs sent from to position met.meets
  becomes_meets xs sent _ _ (happening.Marks from to) met = marks_meet xs sent from to met.meets
  becomes_meets xs sent _ _ (happening.Delivers packet which is) met = at_meets xs sent _ _ (accept_meets xs packet (all_at_place (PacketPast xs) sent which packet met.meets.packets is)) met.meets
  becomes_meets xs sent _ _ (happening.Purges name) met = at_meets xs sent name _ (purge_meets xs name) met.meets
  becomes_meets xs sent _ _ (happening.Refreshes name change refreshed) met = at_meets xs sent name change (refreshed_meets xs name change refreshed) met.meets
  becomes_meets xs sent _ _ (happening.Joins site from source absent found may) met = joined_meets schema shape xs source site from absent found may met.sites_of met.closed sent met.meets

  becomes_closed : (xs : List SiteState) (sent : List Packet) (ys : List SiteState) (more : List Packet) → Becomes xs sent ys more → AreMet schema xs sent → AbsentAreClosed schema ys
  becomes_closed xs sent _ _ happening.Stays met = met.closed
  becomes_closed xs sent _ _ (happening.Journalled name change steps) met = still_closed schema xs _ (at_adds xs name change (steps_meet xs name change steps) met.meets.each) met.closed
  becomes_closed xs sent _ _ (happening.Sends from to position) met = met.closed
  becomes_closed xs sent _ _ (happening.Marks from to) met = met.closed
  becomes_closed xs sent _ _ (happening.Delivers packet which is) met = still_closed schema xs _ (at_adds xs _ _ (accept_meets xs packet (all_at_place (PacketPast xs) sent which packet met.meets.packets is)) met.meets.each) met.closed
  becomes_closed xs sent _ _ (happening.Purges name) met = still_closed schema xs _ (at_adds xs name _ (purge_meets xs name) met.meets.each) met.closed
  becomes_closed xs sent _ _ (happening.Refreshes name change refreshed) met = still_closed schema xs _ (at_adds xs name change (refreshed_meets xs name change refreshed) met.meets.each) met.closed
  becomes_closed xs sent _ _ (happening.Joins site from source absent found may) met = joined_closed schema shape xs source site from absent found may met.sites_of met.closed

  becomes_met : (xs : List SiteState) (sent : List Packet) (ys : List SiteState) (more : List Packet) → Becomes xs sent ys more → AreMet schema xs sent → AreMet schema ys more
  becomes_met xs sent ys more becomes met = record {
    sites_of = becomes_sites_of schema xs sent ys more becomes met.sites_of;
    holds = becomes_holds xs sent ys more becomes met.holds;
    meets = becomes_meets xs sent ys more becomes met;
    closed = becomes_closed xs sent ys more becomes met;
  }

nothing_arrived : (P : SenderState → Arrival → Type 0) (ss : List SenderState) → AllByRecursion (λ (s : SenderState). s.arrived ≡ []) ss → EachArrival P ss
nothing_arrived P [] none = tt
nothing_arrived P (s ∷ ss) none = (rw none.0 tt, nothing_arrived P ss none.1)

start_met : (schema : Schema) (start : Cluster) → IsStart schema start → SitesLinkAsDeclared schema start.sites → AreMet schema start.sites start.sent
start_met schema start is meshed = record {
  sites_of = start_sites_of schema start.sites is.sites meshed.declared.each;
  holds = start_holds schema start is;
  meets = record { packets = rw is.sent tt; each = λ site. each site (meshed.streams site) };
  closed = meshed.closed;
}
  where
    each : (site : SiteName) → AreFirsts start.sites site (site_of site start.sites) → MeetsAt start.sites site (site_of site start.sites)
    each site firsts = start_is_new schema (λ o. AreFirsts start.sites site o → MeetsAt start.sites site o) start.sites site (λ firsts. tt) (λ x new firsts. record {
      arrived = λ origin p done. absurd (cc (done, new.journal));
      known = nothing_arrived _ x.senders new.arrived;
      pasts = nothing_arrived _ x.senders new.arrived;
      firsts = firsts;
    }) is.sites firsts

-- ---- passes that finish nothing leave nothing ready

longer : {X : Type 0} (x : X) (front xs : List X) → front ++ x ∷ xs ≡ xs → ⊥
longer x front xs same = omega (arith, ap length same, length-append front (x ∷ xs))

each_appends : (origin : SiteName) (arrived : List Arrival) (x : SiteState) → IsFront (apply_each origin arrived x).journal x.journal
each_appends origin [] x = front_none _
each_appends origin (a ∷ arrived) x = by (site_apply origin a.position x) (apply_finishes origin a.position x) (each_appends origin arrived (site_apply origin a.position x))
  where
    by : (y : SiteState) → Finishes origin a.position x y → IsFront (apply_each origin arrived y).journal y.journal → IsFront (apply_each origin arrived y).journal x.journal
    by _ passing.Not more = more
    by _ (passing.By y e is senders here finishing placed) more = record { front = more.front ++ e ∷ []; is = more.is ∙ ap (λ l. more.front ++ l) is ∙ sym (append_assoc more.front (e ∷ []) x.journal) }

-- what isn't stale has arrived
not_stale_arrived : (origin : SiteName) (position : ℕ) (x : SiteState) → stale_of origin position x ≡ None → arrived_at origin position x.senders ≢ None
not_stale_arrived origin position x fresh none = by (finished origin x.journal position) (rw none at fresh)
  where
    by : (b : Bool) → cond b (Some why.Finished) (Some why.NotArrived) ≡ None → ⊥
    by true is = cc
    by false is = cc

-- a pass that finishes nothing meets nothing that is ready
each_not_ready : (origin : SiteName) (arrived : List Arrival) (x : SiteState) → (apply_each origin arrived x).journal ≡ x.journal → AllByRecursion (λ (a : Arrival). is_ready origin a.position x ≡ false) arrived
each_not_ready origin [] x same = tt
each_not_ready origin (a ∷ arrived) x same = go (stale_of origin a.position x) refl (arrived_at origin a.position x.senders) refl (each_not_ready origin arrived x)
  where
    z : SiteState
    z = site_apply origin a.position x

    NotReady : List Arrival → Type 0
    NotReady rest = AllByRecursion (λ (b : Arrival). is_ready origin b.position x ≡ false) rest

    too_long : (e : Entry) → z.journal ≡ e ∷ x.journal → ⊥
    too_long e is = let more = each_appends origin arrived z in longer e more.front x.journal (ap (λ l. more.front ++ l) (sym is) ∙ sym more.is ∙ same)

    applied : (found : Arrival) → (r : Result Effect Failure) → z ≡ finished_by origin found r x → NotReady (a ∷ arrived)
    applied found (Ok effect) is = absurd (too_long _ (ap (λ (y : SiteState). y.journal) is))
    applied found (Err failure) is = absurd (too_long _ (ap (λ (y : SiteState). y.journal) is))

    go : (stale : Option Why) → stale_of origin a.position x ≡ stale → (found : Option Arrival) → arrived_at origin a.position x.senders ≡ found
        → ((apply_each origin arrived x).journal ≡ x.journal → NotReady arrived) → NotReady (a ∷ arrived)
    go (Some why) is found there later = let stays : z ≡ x = rw is refl in (rw is refl, later (subst (λ y. (apply_each origin arrived y).journal ≡ x.journal) stays same))
    go None is None there later = absurd (not_stale_arrived origin a.position x is there)
    go None is (Some found) there later = applied found (effect_here origin found x) (rw (is, there) refl)

find_holds : (P : Arrival → Type 0) (p : ℕ) (xs : List Arrival) (a : Arrival) → AllByRecursion P xs → find_at (arrival_beside p) xs ≡ Some a → P a
find_holds P p [] a all found = absurd (cc found)
find_holds P p (y ∷ ys) a all found = go (arrival_beside p y) (find_holds P p ys a all.1) found
  where
    go : (o : Ordering) → (find_at (arrival_beside p) ys ≡ Some a → P a) → found_here o y (find_at (arrival_beside p) ys) ≡ Some a → P a
    go Less later found = later found
    go Equal later found = let same : y ≡ a = cc found in rw (← same) all.0
    go Greater later found = absurd (cc found)

-- so no position of the sender is ready
nothing_ready : (x : SiteState) → PassesFinishNothing x → (origin : SiteName) (position : ℕ) → is_ready origin position x ≡ false
nothing_ready x finish_nothing origin position = go (stale_of origin position x) refl (arrived_at origin position x.senders) refl
  where
    each : AllByRecursion (λ (a : Arrival). is_ready origin a.position (begun x) ≡ false) (arrivals origin x)
    each = each_not_ready origin (arrivals origin x) (begun x) (finish_nothing origin)

    by : (a : Arrival) → arrived_at origin position x.senders ≡ Some a → is_ready origin position x ≡ false
    by a there = subst (λ (p : ℕ). is_ready origin p x ≡ false) (arrived_has origin position x a there)
        (find_holds (λ a. is_ready origin a.position x ≡ false) position (arrivals origin x) a each there)

    go : (stale : Option Why) → stale_of origin position x ≡ stale → (found : Option Arrival) → arrived_at origin position x.senders ≡ found → is_ready origin position x ≡ false
    go (Some why) is found there = rw is refl
    go None is None there = absurd (not_stale_arrived origin position x is there)
    go None is (Some a) there = by a there

-- ---- after the last event

record Final (schema : Schema) (site : SiteName) (x : SiteState) (f : Cluster) : Type 0 where
  is : site_of site f.sites ≡ Some x
  met : AreMet schema f.sites f.sent
  delivered : IsDelivered f.sites site x
  ready : (origin : SiteName) (position : ℕ) → is_ready origin position x ≡ false

-- all that an origin had queued for the site by some event is finished there in the end
abbrev AreFinished : SiteName → SiteState → SiteName → Option SiteState → Type 0
AreFinished site x origin None = Unit {0}
AreFinished site x origin (Some o) = (p : ℕ) (t : Txn) → at_position p (stream_to site o) ≡ Some t → finished origin x.journal p ≡ true

pub first_of_sender : (sites : List SiteState) (site origin : SiteName) (ss : List SenderState) (s : SenderState) → AllByRecursion (λ (s : SenderState). IsFirstNumber (site_of s.origin sites) site s.first) ss
    → sender_of origin ss ≡ Some s → IsFirstNumber (site_of origin sites) site s.first
first_of_sender sites site origin [] s firsts found = absurd (cc found)
first_of_sender sites site origin (y ∷ ys) s firsts found = go (is_same_site y.origin origin) refl (first_of_sender sites site origin ys s firsts.1) found
  where
    go : (b : Bool) → is_same_site y.origin origin ≡ b → (sender_of origin ys ≡ Some s → IsFirstNumber (site_of origin sites) site s.first) → cond b (Some y) (sender_of origin ys) ≡ Some s → IsFirstNumber (site_of origin sites) site s.first
    go true own later found =
        let same : y ≡ s = cc found in
        subst (λ (o : SiteName). IsFirstNumber (site_of o sites) site s.first) (is_same_site-true y.origin origin own) (subst (λ (z : SenderState). IsFirstNumber (site_of y.origin sites) site z.first) same firsts.0)
    go false own later found = later found

-- what holds of each arrival with its sender's name holds of one that is found
pub arrival_holds : (P : SiteName → Arrival → Type 0) (origin : SiteName) (p : ℕ) (ss : List SenderState) (a : Arrival) → EachArrival (λ s. P s.origin) ss → arrived_at origin p ss ≡ Some a → P origin a
arrival_holds P origin p [] a all found = absurd (cc found)
arrival_holds P origin p (s ∷ ss) a all found = by (is_same_site s.origin origin) refl (arrival_holds P origin p ss a all.1) found
  where
    by : (b : Bool) → is_same_site s.origin origin ≡ b → (arrived_at origin p ss ≡ Some a → P origin a) → find_at (arrival_beside p) (arrived_in (cond b (Some s) (sender_of origin ss))) ≡ Some a → P origin a
    by true own later found = subst (λ (o : SiteName). P o a) (is_same_site-true s.origin origin own) (find_holds (P s.origin) p s.arrived a all.0 found)
    by false own later found = later found

all_covered : (x : SiteState) (P : PastEntry → Type 0) (here : SiteName) → ((seen : PastEntry) → P seen → is_known here x.senders seen ≡ true → is_covered x seen ≡ true)
    → (past : List PastEntry) → AllByRecursion P past → list_all (is_known here x.senders) past ≡ true → list_all (is_covered x) past ≡ true
all_covered x P here each [] all known = refl
all_covered x P here each (seen ∷ past) all known = by (is_known here x.senders seen) refl (all_covered x P here each past all.1) known
  where
    by : (b : Bool) → is_known here x.senders seen ≡ b → (list_all (is_known here x.senders) past ≡ true → list_all (is_covered x) past ≡ true) → (b && list_all (is_known here x.senders) past) ≡ true
        → (is_covered x seen && list_all (is_covered x) past) ≡ true
    by true is later known = rw (each seen all.0 is) (later known)
    by false is later known = cc

module _ (schema : Schema) (shape : HasShape schema) (site : SiteName) (x : SiteState) (f : Cluster) (final : Final schema site x f) where
  held : SiteHolds f.sites site x
  held = subst (HoldsAt f.sites site) final.is (final.met.holds.each site)

  meets : SiteMeets f.sites site x
  meets = subst (MeetsAt f.sites site) final.is (final.met.meets.each site)

  -- a number of an origin is covered where all positions up to it are finished
  covers : (origin : SiteName) (s : SenderState) (o : SiteState) (n : ℕ) → sender_of origin x.senders ≡ Some s → opened_of site o ≡ Some s.first → site_of origin f.sites ≡ Some o
      → n - s.first ≤ low_water origin x.journal → n ≤ covered origin x
  covers origin s o n is opened there within = rw is (go (low_water origin x.journal) refl (low_water origin x.journal == 0) refl)
    where
      found : (low : ℕ) → low_water origin x.journal ≡ low → 0 < low → (b : Option Arrival) → arrived_at origin low x.senders ≡ b → n ≤ arrival_number b
      found low same above None at = absurd (meets.arrived origin low (low_water-below origin x.journal low above (omega (arith, same))) at)
      found low same above (Some b) at =
          let sent : SentBy (Some o) site b.number b.position b.dep b.txn = subst (λ (u : Option SiteState). SentBy u site b.number b.position b.dep b.txn) there (arrived_was_sent f.sites site origin x.senders low b held.senders at) in
          let position : b.position ≡ low = arrived_has origin low x b at in
          let same_count : sent.count ≡ s.first = cc (sent.opened, opened) in
          omega (arith, sent.number_is, position, same_count, within, same)

      go : (low : ℕ) → low_water origin x.journal ≡ low → (b : Bool) → (low == 0) ≡ b → n ≤ cond (low == 0) (first_in (Some s)) (arrival_number (find_at (arrival_beside low) (arrived_in (Some s))))
      go low same true none = rw none (let zero_low : low ≡ 0 = grind (arith, nat_tests) in omega (arith, within, same, zero_low))
      go low same false some =
          let above : 0 < low = grind (arith, nat_tests) in
          let at : arrived_at origin low x.senders ≡ find_at (arrival_beside low) (arrived_in (Some s)) = ap (λ u. find_at (arrival_beside low) (arrived_in u)) is in
          rw (some, ← at) (found low same above (arrived_at origin low x.senders) refl)

  -- what was queued by some event is covered in the end, if all that was is finished
  queued_covered : (sites : List SiteState) → AllOnward sites f.sites → ((origin : SiteName) → AreFinished site x origin (site_of origin sites)) → (seen : PastEntry) → WasQueued sites seen
      → is_known x.here.site x.senders seen ≡ true → is_covered x seen ≡ true
  queued_covered sites on all seen was known = go (is_same_site seen.origin x.here.site) refl known
    where
      low_enough : (first : ℕ) (o : SiteState) → opened_of site o ≡ Some first → seen.number ≤ count_of o → AreFinished site x seen.origin (Some o) → seen.number - first ≤ low_water seen.origin x.journal
      low_enough first o opened queued done = low_water-greatest seen.origin x.journal (seen.number - first) (λ p from_one up_to. one p from_one up_to (at_position p (queued_behind first (queue_of o))) refl)
        where
          one : (p : ℕ) → 0 < p → p ≤ seen.number - first → (t : Option Txn) → at_position p (queued_behind first (queue_of o)) ≡ t → finished seen.origin x.journal p ≡ true
          one p from_one up_to None there =
              let sum = length-queued_behind first (queue_of o) (omega (arith, from_one, up_to, queued)) in
              absurd (at_position-within p (queued_behind first (queue_of o)) (omega (arith, from_one)) (omega (arith, up_to, queued, sum)) there)
          one p from_one up_to (Some t) there = done p t (rw opened there)

      -- where the site was opened later, its first number is no lower
      low_by : (s : SenderState) (o y : SiteState) → opened_of site y ≡ Some s.first → StaysOpen (count_of o) (opened_of site o) (opened_of site y) → seen.number ≤ count_of o → AreFinished site x seen.origin (Some o)
          → seen.number - s.first ≤ low_water seen.origin x.journal
      low_by s o y opened (inl same) queued done = low_enough s.first o (sym same ∙ opened) queued done
      low_by s o y opened (inr later) queued done = let above : count_of o ≤ s.first = rw opened at later.1 in omega (arith, above, queued)

      later : (s : SenderState) → sender_of seen.origin x.senders ≡ Some s → (o u : Option SiteState) → site_of seen.origin f.sites ≡ u → OnwardIn o u → IsFirstNumber u site s.first → AreFinished site x seen.origin o
          → seen.number ≤ count_in o → seen.number ≤ covered seen.origin x
      later s is None u at on first done queued = absurd (omega (arith, was.from_one, queued))
      later s is (Some o) None at on first done queued = absurd on
      later s is (Some o) (Some y) at on first done queued = covers seen.origin s y seen.number is first.0 at (low_by s o y first.0 (on.opened site) queued done)

      by : (s : Option SenderState) → sender_of seen.origin x.senders ≡ s → is_some s ≡ true → nat_le seen.number (covered seen.origin x) ≡ true
      by None is some = cc
      by (Some s) is some =
          let first : IsFirstNumber (site_of seen.origin f.sites) site s.first = first_of_sender f.sites site seen.origin x.senders s meets.firsts is in
          let within = later s is (site_of seen.origin sites) (site_of seen.origin f.sites) refl (on seen.origin) first (all seen.origin) was.queued in
          grind (arith, nat_tests)

      go : (b : Bool) → is_same_site seen.origin x.here.site ≡ b → (b || is_some (sender_of seen.origin x.senders)) ≡ true → (is_same_site seen.origin x.here.site || nat_le seen.number (covered seen.origin x)) ≡ true
      go true own known = rw own refl
      go false other known = rw other (by (sender_of seen.origin x.senders) refl known)

  -- the transaction that an origin queues next, all before it being finished, is due when it has arrived
  next_due : (sites : List SiteState) → AllOnward sites f.sites → ((origin : SiteName) → AreFinished site x origin (site_of origin sites)) → (origin : SiteName) (o y : SiteState) (c : ℕ) (a : Arrival) (p : ℕ) (past : List PastEntry)
      → AllByRecursion (WasQueued sites) past → AreFinished site x origin (Some o) → opened_of site o ≡ Some c → c ≤ length (queue_of o) → p ≡ length (queued_behind c (queue_of o)) + 1
      → site_of origin f.sites ≡ Some y → opened_of site y ≡ Some c → at_position (length (queue_of o) + 1) (pasts_of y) ≡ Some past
      → arrived_at origin p x.senders ≡ Some a → is_due origin x a ≡ true
  next_due sites on all origin o y c a p past queued done opened under at there opened_later past_there come = both
    where
      sent : IsSent y site a.number a.position a.dep a.txn
      sent = subst (λ (u : Option SiteState). SentBy u site a.number a.position a.dep a.txn) there (arrived_was_sent f.sites site origin x.senders p a held.senders come)

      position : a.position ≡ p
      position = arrived_has origin p x a come

      same_count : sent.count ≡ c
      same_count = cc (sent.opened, opened_later)

      number : a.number ≡ length (queue_of o) + 1
      number = let sum = length-queued_behind c (queue_of o) under in omega (arith, sent.number_is, position, same_count, sum, at)

      low : length (queued_behind c (queue_of o)) ≤ low_water origin x.journal
      low = low_water-greatest origin x.journal (length (queued_behind c (queue_of o))) (λ q from_one up_to. one q from_one up_to (at_position q (queued_behind c (queue_of o))) refl)
        where
          one : (q : ℕ) → 0 < q → q ≤ length (queued_behind c (queue_of o)) → (t : Option Txn) → at_position q (queued_behind c (queue_of o)) ≡ t → finished origin x.journal q ≡ true
          one q from_one up_to None is = absurd (at_position-within q (queued_behind c (queue_of o)) (omega (arith, from_one)) up_to is)
          one q from_one up_to (Some t) is = done q t (rw opened is)

      dep : a.dep ≤ low_water origin x.journal
      dep = let below = dep_at-earlier y.schema (stream_to site y) a.position a.txn sent.there in omega (arith, below, sent.dep_is, position, at, low)

      its_past : a.past ≡ past
      its_past =
          let has : at_position a.number (pasts_of y) ≡ Some a.past = subst (λ (u : Option SiteState). PastIs u a.number a.past) there (arrival_holds (λ n b. PastIs (site_of n f.sites) b.number b.past) origin p x.senders a meets.pasts come) in
          let has_here : at_position (length (queue_of o) + 1) (pasts_of y) ≡ Some a.past = subst (λ (n : ℕ). at_position n (pasts_of y) ≡ Some a.past) number has in
          cc (has_here, past_there)

      known : list_all (is_known x.here.site x.senders) a.past ≡ true
      known = arrival_holds (λ n b. list_all (is_known x.here.site x.senders) b.past ≡ true) origin p x.senders a meets.known come

      covered_past : list_all (is_covered x) a.past ≡ true
      covered_past = all_covered x (WasQueued sites) x.here.site (queued_covered sites on all) a.past (subst (AllByRecursion (WasQueued sites)) (sym its_past) queued) known

      both : is_due origin x a ≡ true
      both = rw covered_past (let within : nat_le a.dep (low_water origin x.journal) ≡ true = grind (arith, nat_tests, dep) in rw within refl)

  -- so it is finished
  next_finished : (origin : SiteName) (p : ℕ) → arrived_at origin p x.senders ≢ None → ((a : Arrival) → arrived_at origin p x.senders ≡ Some a → is_due origin x a ≡ true) → finished origin x.journal p ≡ true
  next_finished origin p come due = go (finished origin x.journal p) refl (arrived_at origin p x.senders) refl come
    where
      ready : (a : Arrival) → finished origin x.journal p ≡ false → arrived_at origin p x.senders ≡ Some a → is_ready origin p x ≡ true
      ready a unfinished at = rw (unfinished, at, due a at) refl

      go : (b : Bool) → finished origin x.journal p ≡ b → (o : Option Arrival) → arrived_at origin p x.senders ≡ o → o ≢ None → b ≡ true
      go true is o at some = refl
      go false is None at some = absurd (some refl)
      go false is (Some a) at some = absurd (cc (ready a is at, final.ready origin p))

  -- one event more
  step_finished : (xs ys : List SiteState) (sent : List Packet) → AreMet schema xs sent → AllQueue xs ys → AllOnward ys f.sites
      → ((origin : SiteName) → AreFinished site x origin (site_of origin xs)) → (origin : SiteName) → AreFinished site x origin (site_of origin ys)
  step_finished xs ys sent met queues on all origin =
      go (site_of origin xs) (site_of origin ys) (queues origin) (site_of origin f.sites) refl (on origin) (all origin) (met.holds.each origin) (met.meets.each origin)
    where
      on_xs : AllOnward xs f.sites
      on_xs s = onward_before (site_of s xs) (site_of s ys) (site_of s f.sites) (queues s) (on s)

      -- the newest one, of a stream that was open before
      newest : (o u y : SiteState) (t : Txn) (c p : ℕ) (past : List PastEntry) → AllByRecursion (WasQueued xs) past → pasts_of u ≡ past ∷ pasts_of o → opened_of site u ≡ opened_of site o → site_of origin f.sites ≡ Some y → Onward u y
          → AreFinished site x origin (Some o) → opened_of site o ≡ Some c → c ≤ length (queue_of o) → p ≡ length (queued_behind c (queue_of o)) + 1 → at_position p (stream_to site u) ≡ Some t → finished origin x.journal p ≡ true
      newest o u y t c p past queued pasts opens at_f onward done opened under at there =
          next_finished origin p (final.delivered origin y p t at_f (onward_there site u y p t onward there))
          (λ a come. next_due xs on_xs all origin o y c a p past queued done opened under at at_f open_later past_there come)
        where
          open_later : opened_of site y ≡ Some c
          open_later = elim (onward.opened site) [ inl same ↦ same ∙ opens ∙ opened | inr later ↦ absurd (cc (later.0, opens, opened)) ]

          own : at_position (length (queue_of o) + 1) (past ∷ pasts_of o) ≡ Some past
          own =
              let many = length-pasts_after o.schema o.here o.base o.senders o.journal in
              let is : (length (queue_of o) + 1 == length (pasts_of o) + 1) ≡ true = grind (arith, nat_tests, many) in
              rw is refl

          past_there : at_position (length (queue_of o) + 1) (pasts_of y) ≡ Some past
          past_there = rw onward.pasts.is (at_position-append onward.pasts.front (pasts_of u) (length (queue_of o) + 1) past (rw pasts own))

      adding : (o u y : SiteState) → Adds o u → site_of origin f.sites ≡ Some y → Onward u y → AreFinished site x origin (Some o) → SiteHolds xs origin o → SiteMeets xs origin o → AreFinished site x origin (Some u)
      adding o u y adds at_f onward done holds site_meets p t there = by (opened_of site o) refl
        where
          queued : AllByRecursion (WasQueued xs) (past_of o)
          queued = past_queued xs origin o.schema o.journal o.senders holds.senders site_meets.firsts

          fresh : (c : ℕ) → opened_of site o ≡ Some c → (b : Bool) (new : Txn) → pasts_of u ≡ with_one b (past_of o) (pasts_of o) → at_position p (queued_behind c (with_one b new (queue_of o))) ≡ Some t → finished origin x.journal p ≡ true
          fresh c opened false new pasts in_u = done p t (rw opened in_u)
          fresh c opened true new pasts in_u = which (nat_lt c (length (queue_of o) + 1)) refl in_u
            where
              last : (b : Bool) → (p == length (queued_behind c (queue_of o)) + 1) ≡ b → nat_lt c (length (queue_of o) + 1) ≡ true → cond b (Some new) (at_position p (queued_behind c (queue_of o))) ≡ Some t → finished origin x.journal p ≡ true
              last true at above in_u = newest o u y t c p (past_of o) queued pasts (adds.opened site) at_f onward done opened (grind (arith, nat_tests)) (grind (arith, nat_tests)) there
              last false at above in_u = done p t (rw opened in_u)

              which : (b : Bool) → nat_lt c (length (queue_of o) + 1) ≡ b → at_position p (with_one b new (queued_behind c (queue_of o))) ≡ Some t → finished origin x.journal p ≡ true
              which true above in_u = last (p == length (queued_behind c (queue_of o)) + 1) refl above in_u
              which false above in_u = done p t (rw opened in_u)

          by : (c : Option ℕ) → opened_of site o ≡ c → finished origin x.journal p ≡ true
          by None opened = let none : at_position p (stream_in None (queue_of u)) ≡ Some t = subst (λ (k : Option ℕ). at_position p (stream_in k (queue_of u)) ≡ Some t) (adds.opened site ∙ opened) there in absurd (cc none)
          by (Some c) opened = fresh c opened adds.queues adds.txn adds.pasts
              (subst (λ (ts : List Txn). at_position p (queued_behind c ts) ≡ Some t) adds.queue (subst (λ (k : Option ℕ). at_position p (stream_in k (queue_of u)) ≡ Some t) (adds.opened site ∙ opened) there))

      -- a stream that is opened is empty
      opening : (o u : SiteState) → Opens o u → AreFinished site x origin (Some o) → AreFinished site x origin (Some u)
      opening o u opens done p t there = by (opens.opened site)
        where
          in_o : (k : Option ℕ) → opened_of site u ≡ k → at_position p (stream_in k (queue_of o)) ≡ Some t
          in_o k is = subst (λ (ts : List Txn). at_position p (stream_in k ts) ≡ Some t) opens.queue (subst (λ (k : Option ℕ). at_position p (stream_in k (queue_of u)) ≡ Some t) is there)

          by : IsOpenedFrom (count_of o) (opened_of site o) (opened_of site u) → finished origin x.journal p ≡ true
          by (inl same) = done p t (in_o (opened_of site o) same)
          by (inr now) =
              let none : queued_behind (count_of o) (queue_of o) ≡ [] = queued_behind-none (count_of o) (queue_of o) (omega arith) in
              let found : at_position p [] ≡ Some t = subst (λ (ts : List Txn). at_position p ts ≡ Some t) none (in_o (Some (count_of o)) now.1) in
              absurd (cc found)

      empty : (k : Option ℕ) (p : ℕ) (t : Txn) → at_position p (stream_in k []) ≡ Some t → finished origin x.journal p ≡ true
      empty None p t there = absurd (cc there)
      empty (Some c) p t there = absurd (cc there)

      go : (o u : Option SiteState) → QueuesIn o u → (v : Option SiteState) → site_of origin f.sites ≡ v → OnwardIn u v → AreFinished site x origin o → HoldsAt xs origin o → MeetsAt xs origin o → AreFinished site x origin u
      go None None queues v at_f on done holds site_meets = tt
      go None (Some u) queues v at_f on done holds site_meets = λ p t there. empty (opened_of site u) p t (rw queues at there)
      go (Some o) None queues v at_f on done holds site_meets = tt
      go (Some o) (Some u) queues None at_f on done holds site_meets = absurd on
      go (Some o) (Some u) (inl adds) (Some y) at_f on done holds site_meets = adding o u y adds at_f on done holds site_meets
      go (Some o) (Some u) (inr opens) (Some y) at_f on done holds site_meets = opening o u opens done

  start_finished : (sites : List SiteState) → AllByRecursion (IsNewSite schema) sites → (origin : SiteName) → AreFinished site x origin (site_of origin sites)
  start_finished sites new origin = start_is_new schema (AreFinished site x origin) sites origin tt (λ o is p t there. none (opened_of site o) p t (rw is.journal at there)) new
    where
      none : (k : Option ℕ) (p : ℕ) (t : Txn) → at_position p (stream_in k []) ≡ Some t → finished origin x.journal p ≡ true
      none None p t there = absurd (cc there)
      none (Some c) p t there = absurd (cc there)

  run_finished : (es : List Event) (start : Cluster) → IsStart schema start → AreMet schema start.sites start.sent → AllOnward (run es start).sites f.sites → (origin : SiteName) → AreFinished site x origin (site_of origin (run es start).sites)
  run_finished [] start is met on origin = start_finished start.sites is.sites origin
  run_finished (e ∷ es) start is met on origin =
      let before : AreMet schema (run es start).sites (run es start).sent = run_keeps (AreMet schema) (becomes_met schema shape) es start met in
      let queues = becomes_queues schema shape _ _ _ _ (happens_becomes e (run es start)) before in
      step_finished (run es start).sites (happens e (run es start)).sites (run es start).sent before queues on
      (run_finished es start is met (λ s. onward_before (site_of s (run es start).sites) (site_of s (happens e (run es start)).sites) (site_of s f.sites) (queues s) (on s))) origin

  waits_for_nothing : ((origin : SiteName) → AreFinished site x origin (site_of origin f.sites)) → NothingWaits x
  waits_for_nothing all origin p come = go (arrived_at origin p x.senders) refl come
    where
      by : (a : Arrival) → a.position ≡ p → (u : Option SiteState) → SentBy u site a.number a.position a.dep a.txn → AreFinished site x origin u → finished origin x.journal p ≡ true
      by a at None sent done = absurd sent
      by a at (Some y) sent done = subst (λ (q : ℕ). finished origin x.journal q ≡ true) at (done a.position a.txn sent.there)

      go : (o : Option Arrival) → arrived_at origin p x.senders ≡ o → o ≢ None → finished origin x.journal p ≡ true
      go None at some = absurd (some refl)
      go (Some a) at some = by a (arrived_has origin p x a at) (site_of origin f.sites) (arrived_was_sent f.sites site origin x.senders p a held.senders at) (all origin)

-- what holds of the sites and packets after every list of events
pub run_met : (schema : Schema) (start : Cluster) (events : List Event) → IsStart schema start → SitesLinkAsDeclared schema start.sites → AreMet schema (run events start).sites (run events start).sent
run_met schema start events is meshed = run_keeps (AreMet schema) (becomes_met schema meshed.declared.shape) events start (start_met schema start is meshed)

pub nothing_waits_for_ever : NothingWaitsForEver
nothing_waits_for_ever schema start events is meshed site x found delivered finish_nothing =
    let f : Cluster = run events start in
    let shape = meshed.declared.shape in
    let met = start_met schema start is meshed in
    let final : Final schema site x f = record {
      is = found;
      met = run_keeps (AreMet schema) (becomes_met schema shape) events start met;
      delivered = delivered;
      ready = nothing_ready x finish_nothing;
    } in
    waits_for_nothing schema shape site x f final (run_finished schema shape site x f final events start is met (onward_same f.sites))
