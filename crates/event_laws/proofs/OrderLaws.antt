-- Positions are finished once, and in an order that keeps dependencies, in every run.
use Rattle.std.proofs.Common.{◌≡◌, ℕ, ◌+◌, ◌<◌, ◌≤◌, List, [], ◌∷◌, length, Bool, true, false, cond, Some, None, refl, sym, ap, ◌∙◌, arith, subst}
use Rattle.std.specs.Prelude.{◌≢◌, ◌||◌, Option, IfSome, option_map}
use Rattle.std.specs.List.{list_any}
use Rattle.rep_values.specs.declared.name.SiteName.{SiteName}
use Rattle.rep_schema.specs.declared.schema.Schema.{Schema}
use Rattle.rep_calls.specs.declared.call.Txn.{Txn}
use Rattle.deferred_queue.specs.Streams.{at_position}
use Rattle.rep_values.specs.SiteNames.{is_same_site}
use Rattle.deferred_queue.proofs.Positions.{found_position}
use Rattle.packet_code.specs.declared.packet.Packet.{Packet}
use Rattle.packet_code.specs.declared.packet.Packet.TheVariants.{Carry, Mark}
use Rattle.site_state.specs.declared.entry.Entry.{Entry}
use Rattle.site_state.specs.declared.entry.Entry.TheVariants.{Local, Done, Error, Executed, Dropped, Refreshed}
use Rattle.error_queue.specs.declared.entry.ErrorEntry.{ErrorEntry}
use Rattle.site_state.specs.declared.arrival.Arrival.{Arrival}
use Rattle.site_state.specs.State.{SiteState, arrived_at}
use Rattle.site_state.specs.Journal.{finishes, clears_error, is_position, low_water, error_at}
use Rattle.site_state.specs.Streams.{stream_to, shares}
use Rattle.rep_lists.specs.Counting.{count_where}
use Rattle.site_state.specs.Packets.{arrived_by, taken_unless, is_foreign, site_accept}
use Rattle.site_state.specs.Purges.{site_purge}
use Rattle.site_state.specs.Joining.{site_open}
use Rattle.site_state.proofs.LowWater.{low_water-below}
use Rattle.site_state.proofs.Growing.{IsFront, at_position-append, at_position-older, dep_at-covers}
use Rattle.site_state.proofs.Stepping.{MayFollow, IsTaken, with_entry, Journals, no_entry, one_entry, steps_later, Later, IsSent, stream_to-later, arrived_has, is_position-true}
use Rattle.site_state.proofs.Changing.{accept_later, purge_later}
use Rattle.site_state.proofs.Waited.{due_dep}
use Rattle.site_events.specs.Cluster.{Cluster, site_of, at_site}
use Rattle.site_events.specs.Joins.{copied, with_joined}
use Rattle.site_events.specs.Events.{Event, receiver, run}
use Rattle.event_laws.specs.Starts.{IsStart, InEveryRun}
use Rattle.event_laws.specs.Marks.{journal_in}
use Rattle.event_laws.specs.Orders.{AreFinishedOnce, AreClearedOnce, FollowsEarlier, FollowsIn, EntryFollows, IsInOrder, EarlierComesFirst}
use Rattle.event_laws.proofs.Sites.{at_split, site_of-joined, found_or}
use Rattle.event_laws.proofs.Happening.{IsRefreshed, Becomes, run_keeps}
use Rattle.event_laws.proofs.Happening as happening
use Rattle.event_laws.proofs.NewSites.{copied_is_new, start_is_new}
use Rattle.event_laws.proofs.RunInvariants.{SentBy, SendersHold, HoldsAt, Holds, LaterIn, AllLater, at_later}
use Rattle.event_laws.proofs.MarkLaws.{becomes_holds, start_holds, arrived_was_sent, refreshed_later, joined_later}

-- ---- once

abbrev count_standing : Option ErrorEntry → ℕ
count_standing None = 0
count_standing (Some e) = 1

-- an error was cleared or stands only where its position was finished
record IsOnce (journal : List Entry) (origin : SiteName) (position : ℕ) : Type 0 where
  cleared : count_where (clears_error origin position) journal + count_standing (error_at origin position journal) ≤ count_where (finishes origin position) journal
  finished : count_where (finishes origin position) journal ≤ 1

count_where-none : (test : Entry → Bool) (es : List Entry) → list_any test es ≡ false → count_where test es ≡ 0
count_where-none test [] none = refl
count_where-none test (e ∷ es) none = go (test e) refl (count_where-none test es) none
  where
    go : (b : Bool) → test e ≡ b → (list_any test es ≡ false → count_where test es ≡ 0) → (b || list_any test es) ≡ false → cond b (count_where test es + 1) (count_where test es) ≡ 0
    go true is later none = cc
    go false is later none = later none

taken_was_unfinished : (x : SiteState) (origin o : SiteName) (position p : ℕ) (txn : Txn) → IsTaken x o p txn → is_position origin position o p ≡ true → count_where (finishes origin position) x.journal ≡ 0
taken_was_unfinished x origin o position p txn taken is =
    let same = is_position-true origin o position p is in
    count_where-none (finishes origin position) x.journal (rw (← same.0, ← same.1) taken.unfinished)

cleared_stood : (x : SiteState) (origin o : SiteName) (position p : ℕ) → error_at o p x.journal ≢ None → is_position origin position o p ≡ true → count_standing (error_at origin position x.journal) ≡ 1
cleared_stood x origin o position p stands is =
    let same = is_position-true origin o position p is in
    rw (← same.0, ← same.1) (one (error_at o p x.journal) stands)
  where
    one : (e : Option ErrorEntry) → e ≢ None → count_standing e ≡ 1
    one None stands = absurd (stands refl)
    one (Some e) stands = refl

once_more : (x : SiteState) (e : Entry) (origin : SiteName) (position : ℕ) → MayFollow x e → IsOnce x.journal origin position → IsOnce (e ∷ x.journal) origin position
once_more x (Local number txn) origin position follows once = record { cleared = once.cleared; finished = once.finished }
once_more x (Done o p onward txn) origin position follows once = go (is_position origin position o p) refl
  where
    go : (b : Bool) → is_position origin position o p ≡ b → IsOnce (Done o p onward txn ∷ x.journal) origin position
    go true is = let never = taken_was_unfinished x origin o position p txn follows is in record { cleared = rw is (omega (arith, once.cleared, never)); finished = rw is (omega (arith, never)) }
    go false is = record { cleared = rw is once.cleared; finished = rw is once.finished }
once_more x (Error o p call error txn) origin position follows once = go (is_position origin position o p) refl
  where
    go : (b : Bool) → is_position origin position o p ≡ b → IsOnce (Error o p call error txn ∷ x.journal) origin position
    go true is = let never = taken_was_unfinished x origin o position p txn follows is in record { cleared = rw is (omega (arith, once.cleared, never)); finished = rw is (omega (arith, never)) }
    go false is = record { cleared = rw is once.cleared; finished = rw is once.finished }
once_more x (Executed o p onward txn) origin position follows once = go (is_position origin position o p) refl
  where
    go : (b : Bool) → is_position origin position o p ≡ b → IsOnce (Executed o p onward txn ∷ x.journal) origin position
    go true is = let stood = cleared_stood x origin o position p follows is in record { cleared = rw is (omega (arith, once.cleared, stood)); finished = once.finished }
    go false is = record { cleared = rw is once.cleared; finished = once.finished }
once_more x (Dropped o p) origin position follows once = go (is_position origin position o p) refl
  where
    go : (b : Bool) → is_position origin position o p ≡ b → IsOnce (Dropped o p ∷ x.journal) origin position
    go true is = let stood = cleared_stood x origin o position p follows is in record { cleared = rw is (omega (arith, once.cleared, stood)); finished = once.finished }
    go false is = record { cleared = rw is once.cleared; finished = once.finished }
once_more x (Refreshed moment) origin position follows once = record { cleared = once.cleared; finished = once.finished }

-- ---- in order

follows_later : (o u : Option SiteState) (site origin : SiteName) (position : ℕ) (txn : Txn) (before : List Entry) → LaterIn o u → FollowsIn o site origin position txn before → FollowsIn u site origin position txn before
follows_later None u site origin position txn before later follows = absurd follows
follows_later (Some x) None site origin position txn before later follows = absurd later
follows_later (Some x) (Some y) site origin position txn before later follows = record {
  sent = rw more.is (at_position-append more.front (stream_to site x) position txn follows.sent);
  earlier = λ p t less at shared. follows.earlier p t less (older p t less at) (subst (λ s. shares s txn t ≡ true) later.schema shared);
}
  where
    more : IsFront (stream_to site y) (stream_to site x)
    more = stream_to-later site x y later

    older : (p : ℕ) (t : Txn) → p < position → at_position p (stream_to site y) ≡ Some t → at_position p (stream_to site x) ≡ Some t
    older p t less at =
        let within : position ≤ length (stream_to site x) = (found_position position (stream_to site x) txn follows.sent).1 in
        sym (at_position-older more.front (stream_to site x) p (omega (arith, within, less))) ∙ sym (ap (at_position p) more.is) ∙ at

entry_later : (xs ys : List SiteState) (site : SiteName) (e : Entry) (before : List Entry) → AllLater xs ys → EntryFollows xs site e before → EntryFollows ys site e before
entry_later xs ys site (Local number txn) before later follows = tt
entry_later xs ys site (Done o p onward txn) before later follows = follows_later (site_of o xs) (site_of o ys) site o p txn before (later o) follows
entry_later xs ys site (Error o p call error txn) before later follows = follows_later (site_of o xs) (site_of o ys) site o p txn before (later o) follows
entry_later xs ys site (Executed o p onward txn) before later follows = tt
entry_later xs ys site (Dropped o p) before later follows = tt
entry_later xs ys site (Refreshed moment) before later follows = tt

order_later : (xs ys : List SiteState) (site : SiteName) (es : List Entry) → AllLater xs ys → IsInOrder xs site es → IsInOrder ys site es
order_later xs ys site [] later order = tt
order_later xs ys site (e ∷ es) later order = (entry_later xs ys site e es later order.0, order_later xs ys site es later order.1)

arrival_follows : (site : SiteName) (x y : SiteState) (origin : SiteName) (a : Arrival) (position : ℕ) (txn : Txn) → a.position ≡ position → a.txn ≡ txn → a.dep ≤ low_water origin x.journal
    → IsSent y site a.number a.position a.dep a.txn → FollowsEarlier y site origin position txn x.journal
arrival_follows site x y origin a position txn at carries due sent = record {
  sent = rw (← at, ← carries) sent.there;
  earlier = λ p t less there shared. low_water-below origin x.journal p (omega (arith, (found_position p (stream_to site y) t there).0))
      (omega (arith, due, sent.dep_is, dep_at-covers y.schema (stream_to site y) p a.position t a.txn there sent.there (omega (arith, less, at)) (rw carries shared)));
}

taken_follows : (sites : List SiteState) (site : SiteName) (x : SiteState) (origin : SiteName) (position : ℕ) (txn : Txn) → SendersHold sites site x.senders → IsTaken x origin position txn
    → FollowsIn (site_of origin sites) site origin position txn x.journal
taken_follows sites site x origin position txn holds taken = go (site_of origin sites) (arrived_was_sent sites site origin x.senders position taken.arrival holds taken.there)
  where
    go : (o : Option SiteState) → SentBy o site taken.arrival.number taken.arrival.position taken.arrival.dep taken.arrival.txn → FollowsIn o site origin position txn x.journal
    go None sent = absurd sent
    go (Some y) sent = arrival_follows site x y origin taken.arrival position txn (arrived_has origin position x taken.arrival taken.there) taken.carries (due_dep origin x taken.arrival taken.due) sent

entry_follows : (sites : List SiteState) (site : SiteName) (x : SiteState) (e : Entry) → SendersHold sites site x.senders → MayFollow x e → EntryFollows sites site e x.journal
entry_follows sites site x (Local number txn) holds follows = tt
entry_follows sites site x (Done o p onward txn) holds follows = taken_follows sites site x o p txn holds follows
entry_follows sites site x (Error o p call error txn) holds follows = taken_follows sites site x o p txn holds follows
entry_follows sites site x (Executed o p onward txn) holds follows = tt
entry_follows sites site x (Dropped o p) holds follows = tt
entry_follows sites site x (Refreshed moment) holds follows = tt

-- ---- every event

abbrev AreOnce : List Entry → Type 0
AreOnce journal = (origin : SiteName) (position : ℕ) → IsOnce journal origin position

record OrderAt (sites : List SiteState) (site : SiteName) (journal : List Entry) : Type 0 where
  once : AreOnce journal
  in_order : IsInOrder sites site journal

abbrev AllInOrder : List SiteState → Type 0
AllInOrder sites = (site : SiteName) → OrderAt sites site (journal_in (site_of site sites))

none_once : AreOnce []
none_once origin position = record { cleared = omega arith; finished = omega arith }

none_in_order : (sites : List SiteState) (site : SiteName) → OrderAt sites site []
none_in_order sites site = record { once = none_once; in_order = tt }

still_in_order : (xs ys : List SiteState) (site : SiteName) (journal : List Entry) → AllLater xs ys → OrderAt xs site journal → OrderAt ys site journal
still_in_order xs ys site journal later order = record { once = order.once; in_order = order_later xs ys site journal later order.in_order }

order_more : (xs ys : List SiteState) (site : SiteName) (x : SiteState) (e : Option Entry) → AllLater xs ys → SendersHold xs site x.senders → IfSome e (MayFollow x) → OrderAt xs site x.journal → OrderAt ys site (with_entry e x.journal)
order_more xs ys site x None later senders follows order = still_in_order xs ys site x.journal later order
order_more xs ys site x (Some e) later senders follows order = record {
  once = λ origin position. once_more x e origin position follows (order.once origin position);
  in_order = order_later xs ys site (e ∷ x.journal) later (entry_follows xs site x e senders follows, order.in_order);
}

orders_at : (sites : List SiteState) (sent : List Packet) (name : SiteName) (change : SiteState → SiteState) → ((x : SiteState) → Later x (change x)) → ((x : SiteState) → Journals x (change x))
    → Holds sites sent → AllInOrder sites → AllInOrder (at_site name change sites)
orders_at sites sent name change later journals holds orders site =
    at_split (λ o. OrderAt ys site (journal_in o)) name site change sites (λ x. (later x).here) (λ e. own (site_of site sites) (holds.each site) (orders site))
    (still_in_order sites ys site (journal_in (site_of site sites)) all (orders site))
  where
    ys : List SiteState
    ys = at_site name change sites

    all : AllLater sites ys
    all = at_later sites name change later

    own : (o : Option SiteState) → HoldsAt sites site o → OrderAt sites site (journal_in o) → OrderAt ys site (journal_in (option_map change o))
    own None held order = none_in_order ys site
    own (Some x) held order = rw (journals x).journal (order_more sites ys site x (journals x).entry all held.senders (journals x).follows order)

accept_journals : (packet : Packet) (x : SiteState) → Journals x (site_accept packet x)
accept_journals packet x = no_entry x (site_accept packet x) (go packet (is_foreign packet x))
  where
    by : (found : Option Arrival) (from : SiteName) (a : Arrival) → (arrived_by found from a x).journal ≡ x.journal
    by None from a = refl
    by (Some before) from a = refl

    go : (packet : Packet) (b : Bool) → (taken_unless b packet x).journal ≡ x.journal
    go packet true = refl
    go (Carry from to number position dep past txn) false = by (arrived_at from position x.senders) from _
    go (Mark from to mark) false = refl

refreshed_journals : (sites : List SiteState) (x y : SiteState) → IsRefreshed sites x y → Journals x y
refreshed_journals sites x _ happening.Not = no_entry x x refl
refreshed_journals sites x _ (happening.From master found is) = one_entry x _ (Refreshed master.moment) refl tt

joined_in_order : (sites : List SiteState) (site : SiteName) (source : SiteState) → AllInOrder sites → AllInOrder (with_joined sites source site)
joined_in_order sites site source orders name = rw (site_of-joined name (site_open site) sites new (λ x. refl)) (go (site_of name sites) (orders name))
  where
    new : SiteState
    new = copied sites source site

    ys : List SiteState
    ys = with_joined sites source site

    by : (b : Bool) → OrderAt ys name (journal_in (cond b (Some new) None))
    by true = rw (copied_is_new sites source site).journal (none_in_order ys name)
    by false = none_in_order ys name

    go : (o : Option SiteState) → OrderAt sites name (journal_in o) → OrderAt ys name (journal_in (found_or (site_of name (new ∷ [])) (option_map (site_open site) o)))
    go None order = by (is_same_site new.here.site name)
    go (Some x) order = still_in_order sites ys name x.journal (joined_later sites source site) order

-- what holds, and that all is in order
record AreOrdered (sites : List SiteState) (sent : List Packet) : Type 0 where
  holds : Holds sites sent
  orders : AllInOrder sites

becomes_in_order : (xs : List SiteState) (sent : List Packet) (ys : List SiteState) (more : List Packet) → Becomes xs sent ys more → AreOrdered xs sent → AllInOrder ys
becomes_in_order xs sent _ _ happening.Stays are = are.orders
becomes_in_order xs sent _ _ (happening.Journalled name change steps) are = orders_at xs sent name change (λ x. steps_later x (change x) (steps x)) (λ x. (steps x).journals) are.holds are.orders
becomes_in_order xs sent _ _ (happening.Sends from to position) are = are.orders
becomes_in_order xs sent _ _ (happening.Marks from to) are = are.orders
becomes_in_order xs sent _ _ (happening.Delivers packet which is) are = orders_at xs sent (receiver packet) _ (accept_later packet) (accept_journals packet) are.holds are.orders
becomes_in_order xs sent _ _ (happening.Purges name) are = orders_at xs sent name site_purge purge_later (λ x. no_entry x (site_purge x) refl) are.holds are.orders
becomes_in_order xs sent _ _ (happening.Refreshes name change refreshed) are =
    orders_at xs sent name change (λ x. refreshed_later xs x (change x) (refreshed x)) (λ x. refreshed_journals xs x (change x) (refreshed x)) are.holds are.orders
becomes_in_order xs sent _ _ (happening.Joins site from source absent found may) are = joined_in_order xs site source are.orders

becomes_ordered : (xs : List SiteState) (sent : List Packet) (ys : List SiteState) (more : List Packet) → Becomes xs sent ys more → AreOrdered xs sent → AreOrdered ys more
becomes_ordered xs sent ys more becomes are = record { holds = becomes_holds xs sent ys more becomes are.holds; orders = becomes_in_order xs sent ys more becomes are }

run_ordered : (schema : Schema) (start : Cluster) (events : List Event) → IsStart schema start → AreOrdered (run events start).sites (run events start).sent
run_ordered schema start events is = run_keeps AreOrdered becomes_ordered events start (record {
  holds = start_holds schema start is;
  orders = λ site. start_is_new schema (λ o. OrderAt start.sites site (journal_in o)) start.sites site (none_in_order start.sites site) (λ x new. rw new.journal (none_in_order start.sites site)) is.sites;
})

-- ---- the laws

pub are_finished_once : InEveryRun AreFinishedOnce
are_finished_once schema start events is site origin position = (((run_ordered schema start events is).orders site).once origin position).finished

pub are_cleared_once : InEveryRun AreClearedOnce
are_cleared_once schema start events is site origin position =
    let once = ((run_ordered schema start events is).orders site).once origin position in omega (arith, once.cleared, once.finished)

pub earlier_comes_first : InEveryRun EarlierComesFirst
earlier_comes_first schema start events is site = ((run_ordered schema start events is).orders site).in_order
