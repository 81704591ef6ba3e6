-- In every run an error that stands is whole, as its origin sent it, and it stands until it is cleared.
use Rattle.std.proofs.Common.{◌≡◌, ℕ, ◌+◌, ◌≤◌, List, [], ◌∷◌, ◌++◌, Bool, true, false, cond, Some, None, refl, sym, ap, ◌∙◌, arith, subst}
use Rattle.std.specs.Prelude.{◌||◌, Option, filter_map, flat_map}
use Rattle.std.specs.List.{list_any, cons_option, Contains, AllByRecursion}
use Rattle.std.specs.declared.cmp.Ordering.{Ordering}
use Rattle.std.specs.declared.cmp.Ordering.TheVariants.{Less, Equal, Greater}
use Rattle.std.proofs.lemmas.List.Elements.{recursion_from_All, All-contains_itself}
use Rattle.rep_lists.specs.Rising.{find_at, found_here}
use Rattle.rep_values.specs.declared.name.SiteName.{SiteName}
use Rattle.rep_values.specs.declared.refusal.ApplyError.{ApplyError}
use Rattle.rep_schema.specs.declared.schema.Schema.{Schema}
use Rattle.rep_schema.specs.Tables.{Rows}
use Rattle.rep_calls.specs.declared.call.Txn.{Txn}
use Rattle.deferred_queue.specs.Streams.{at_position}
use Rattle.rep_values.specs.SiteNames.{is_same_site}
use Rattle.deferred_queue.proofs.Sites.{is_same_site-true}
use Rattle.error_queue.specs.declared.entry.ErrorEntry.{ErrorEntry}
use Rattle.site_state.specs.declared.entry.Entry.{Entry}
use Rattle.site_state.specs.declared.entry.Entry.TheVariants.{Local, Done, Error, Executed, Dropped, Refreshed}
use Rattle.site_state.specs.declared.arrival.Arrival.{Arrival}
use Rattle.site_state.specs.State.{SenderState, SiteState, sender_of, arrival_beside, arrived_in, arrived_at}
use Rattle.site_state.specs.Journal.{is_position, finishes, clears_error, finished, error_at}
use Rattle.site_state.specs.Streams.{stream_to}
use Rattle.rep_lists.specs.Counting.{count_where}
use Rattle.site_state.specs.Errors.{errors_from, errors_of}
use Rattle.site_state.proofs.LowWater.{finished-append}
use Rattle.site_state.proofs.Stepping.{found_at, arrived_has, is_position-true, error_found, IsSent}
use Rattle.site_events.specs.Cluster.{Cluster, site_of}
use Rattle.site_events.specs.Events.{Event, run}
use Rattle.event_laws.specs.Starts.{IsStart, InEveryRun}
use Rattle.event_laws.specs.Marks.{journal_in}
use Rattle.event_laws.specs.Orders.{FollowsEarlier, FollowsIn, EntryFollows, IsInOrder}
use Rattle.event_laws.specs.Waiting.{SitesLinkAsDeclared}
use Rattle.event_laws.proofs.RunInvariants.{SentBy, SiteHolds, HoldsAt}
use Rattle.event_laws.proofs.MarkLaws.{arrived_was_sent}
use Rattle.event_laws.proofs.OrderLaws.{are_finished_once, earlier_comes_first}
use Rattle.event_laws.proofs.Meeting.{SiteMeets, MeetsAt}
use Rattle.event_laws.proofs.Waiting.{AreMet, run_met}
use Rattle.world_laws.specs.Errors.{IsWholeError, EachErrorIsWhole, EachUnclearedErrorStands}
use Rattle.world_laws.proofs.Failures.{FailedSo, AllFailedSo, is_position-own, finished_here, run_failed}

-- ---- an error that stands has its entry

-- where the entry stands
pub record HasEntry (origin : SiteName) (position : ℕ) (journal : List Entry) (e : ErrorEntry) : Type 0 where
  pub since : List Entry
  pub before : List Entry
  pub is : journal ≡ since ++ Error origin position e.call e.error e.txn ∷ before

has_behind : (origin : SiteName) (position : ℕ) (entry : Entry) (es : List Entry) (e : ErrorEntry) → HasEntry origin position es e → HasEntry origin position (entry ∷ es) e
has_behind origin position entry es e has = record { since = entry ∷ has.since; before = has.before; is = ap (λ rest. entry ∷ rest) has.is }

unless_cleared : (b : Bool) (o : Option ErrorEntry) (e : ErrorEntry) → cond b None o ≡ Some e → o ≡ Some e
unless_cleared true o e found = absurd (cc found)
unless_cleared false o e found = found

pub has_entry : (origin : SiteName) (position : ℕ) (journal : List Entry) (e : ErrorEntry) → error_at origin position journal ≡ Some e → HasEntry origin position journal e
has_entry origin position [] e found = absurd (cc found)
has_entry origin position (Local number txn ∷ es) e found = has_behind origin position (Local number txn) es e (has_entry origin position es e found)
has_entry origin position (Done o p onward txn ∷ es) e found = has_behind origin position (Done o p onward txn) es e (has_entry origin position es e found)
has_entry origin position (Error o p call error txn ∷ es) e found = go (is_position origin position o p) refl (has_entry origin position es e) found
  where
    go : (b : Bool) → is_position origin position o p ≡ b → (error_at origin position es ≡ Some e → HasEntry origin position es e)
        → cond b (Some (record { origin = o; position = p; call = call; error = error; txn = txn })) (error_at origin position es) ≡ Some e → HasEntry origin position (Error o p call error txn ∷ es) e
    go true is later found =
        let here : record { origin = o; position = p; call = call; error = error; txn = txn } ≡ e = cc found in
        let same = is_position-true origin o position p is in
        subst (HasEntry origin position (Error o p call error txn ∷ es)) here (record { since = []; before = es; is = rw (same.0, same.1) refl })
    go false is later found = has_behind origin position (Error o p call error txn) es e (later found)
has_entry origin position (Executed o p onward txn ∷ es) e found =
    has_behind origin position (Executed o p onward txn) es e (has_entry origin position es e (unless_cleared (is_position origin position o p) (error_at origin position es) e found))
has_entry origin position (Dropped o p ∷ es) e found =
    has_behind origin position (Dropped o p) es e (has_entry origin position es e (unless_cleared (is_position origin position o p) (error_at origin position es) e found))
has_entry origin position (Refreshed moment ∷ es) e found = has_behind origin position (Refreshed moment) es e (has_entry origin position es e found)

-- ---- and is in the queue, where its transaction arrived

module _ (P : ErrorEntry → Type 0) where
  first_of : (xs ys : List ErrorEntry) → AllByRecursion P (xs ++ ys) → AllByRecursion P xs
  first_of [] ys all = tt
  first_of (x ∷ xs) ys all = (all.0, first_of xs ys all.1)

  rest_of : (xs ys : List ErrorEntry) → AllByRecursion P (xs ++ ys) → AllByRecursion P ys
  rest_of [] ys all = all
  rest_of (x ∷ xs) ys all = rest_of xs ys all.1

  -- what holds of each error of a sender's arrivals holds of the one of an arrival that is found
  of_arrivals : (h : Arrival → Option ErrorEntry) (position : ℕ) (arrived : List Arrival) (a : Arrival) (e : ErrorEntry) → AllByRecursion P (filter_map h arrived)
      → find_at (arrival_beside position) arrived ≡ Some a → h a ≡ Some e → P e
  of_arrivals h position [] a e all found is = absurd (cc found)
  of_arrivals h position (b ∷ bs) a e all found is = go (arrival_beside position b) (λ later there. of_arrivals h position bs a e later there is) found
    where
      others : (o : Option ErrorEntry) → AllByRecursion P (cons_option o (filter_map h bs)) → AllByRecursion P (filter_map h bs)
      others None all = all
      others (Some x) all = all.1

      own : (o : Option ErrorEntry) → o ≡ Some e → AllByRecursion P (cons_option o (filter_map h bs)) → P e
      own None is all = absurd (cc is)
      own (Some x) is all = let same : x ≡ e = cc is in subst P same all.0

      go : (o : Ordering) → (AllByRecursion P (filter_map h bs) → find_at (arrival_beside position) bs ≡ Some a → P e) → found_here o b (find_at (arrival_beside position) bs) ≡ Some a → P e
      go Less later found = later (others (h b) all) found
      go Equal later found = let same : b ≡ a = cc found in own (h b) (ap h same ∙ is) all
      go Greater later found = absurd (cc found)

  of_senders : (journal : List Entry) (origin : SiteName) (position : ℕ) (ss : List SenderState) (a : Arrival) (e : ErrorEntry) → AllByRecursion P (flat_map (errors_from journal) ss)
      → arrived_at origin position ss ≡ Some a → error_at origin position journal ≡ Some e → P e
  of_senders journal origin position [] a e all found is = absurd (cc found)
  of_senders journal origin position (s ∷ ss) a e all found is =
      go (is_same_site s.origin origin) refl (λ there. of_senders journal origin position ss a e (rest_of (errors_from journal s) (flat_map (errors_from journal) ss) all) there is) found
    where
      go : (b : Bool) → is_same_site s.origin origin ≡ b → (arrived_at origin position ss ≡ Some a → P e) → find_at (arrival_beside position) (arrived_in (cond b (Some s) (sender_of origin ss))) ≡ Some a → P e
      go true own later found = of_arrivals (λ (c : Arrival). error_at s.origin c.position journal) position s.arrived a e (first_of (errors_from journal s) (flat_map (errors_from journal) ss) all) found
          (rw (is_same_site-true s.origin origin own, found_at position s.arrived a found) is)
      go false own later found = later found

-- what holds of each entry of a journal holds of that one
entry_follows : (sites : List SiteState) (site : SiteName) (since : List Entry) (e : Entry) (before : List Entry) → IsInOrder sites site (since ++ e ∷ before) → EntryFollows sites site e before
entry_follows sites site [] e before order = order.0
entry_follows sites site (s ∷ since) e before order = entry_follows sites site since e before order.1

entry_failed : (schema : Schema) (site : SiteName) (base : List Rows) (since : List Entry) (e : Entry) (before : List Entry) → AllFailedSo schema site base (since ++ e ∷ before) → FailedSo schema site base e before
entry_failed schema site base [] e before failed = failed.0
entry_failed schema site base (s ∷ since) e before failed = entry_failed schema site base since e before failed.1

-- ---- it is whole

pub errors_are_whole : (schema : Schema) (start : Cluster) (events : List Event) → IsStart schema start → SitesLinkAsDeclared schema start.sites → EachErrorIsWhole (run events start).sites
errors_are_whole schema start events is meshed site origin position x e found stands = go (site_of origin sites) refl follows
  where
    sites : List SiteState
    sites = (run events start).sites

    met : AreMet schema sites (run events start).sent
    met = run_met schema start events is meshed

    held : SiteHolds sites site x
    held = subst (HoldsAt sites site) found (met.holds.each site)

    meets : SiteMeets sites site x
    meets = subst (MeetsAt sites site) found (met.meets.each site)

    names : (e.origin ≡ origin) × (e.position ≡ position)
    names = error_found origin position x.journal e stands

    has : HasEntry origin position x.journal e
    has = has_entry origin position x.journal e stands

    entry : Entry
    entry = Error origin position e.call e.error e.txn

    follows : FollowsIn (site_of origin sites) site origin position e.txn has.before
    follows =
        let order : IsInOrder sites site x.journal = subst (λ (o : Option SiteState). IsInOrder sites site (journal_in o)) found (earlier_comes_first schema start events is site) in
        entry_follows sites site has.since entry has.before (subst (IsInOrder sites site) has.is order)

    failed : FailedSo x.schema x.here.site x.base entry has.before
    failed = entry_failed x.schema x.here.site x.base has.since entry has.before (subst (AllFailedSo x.schema x.here.site x.base) has.is (run_failed schema start events is meshed site x found))

    done : finished origin x.journal position ≡ true
    done = subst (λ (es : List Entry). finished origin es position ≡ true) (sym has.is)
        (finished-append origin has.since (entry ∷ has.before) position (finished_here origin position e.call e.error e.txn has.before))

    arrived_whole : (y : SiteState) → site_of origin sites ≡ Some y → at_position position (stream_to site y) ≡ Some e.txn → (a : Arrival) → arrived_at origin position x.senders ≡ Some a → e.txn ≡ a.txn
    arrived_whole y there sent a arrived =
        let was : IsSent y site a.number a.position a.dep a.txn = subst (λ (o : Option SiteState). SentBy o site a.number a.position a.dep a.txn) there (arrived_was_sent sites site origin x.senders position a held.senders arrived) in
        let at : at_position position (stream_to site y) ≡ Some a.txn = subst (λ (p : ℕ). at_position p (stream_to site y) ≡ Some a.txn) (arrived_has origin position x a arrived) was.there in
        cc (sent, at)

    by : (y : SiteState) → site_of origin sites ≡ Some y → FollowsEarlier y site origin position e.txn has.before → (a : Option Arrival) → arrived_at origin position x.senders ≡ a → IsWholeError sites site origin position x e
    by y there f None arrived = absurd (meets.arrived origin position done arrived)
    by y there f (Some a) arrived = record {
      origin_is = names.0;
      position_is = names.1;
      listed = of_senders (Contains (errors_of x)) x.journal origin position x.senders a e (recursion_from_All (Contains (errors_of x)) (errors_of x) (All-contains_itself (errors_of x))) arrived stands;
      since = has.since;
      before = has.before;
      journal = has.is;
      sender = y;
      there = there;
      sent = f.sent;
      arrival = a;
      arrived = arrived;
      whole = arrived_whole y there f.sent a arrived;
      fails = failed;
      content = refl;
      queue = refl;
    }

    go : (o : Option SiteState) → site_of origin sites ≡ o → FollowsIn o site origin position e.txn has.before → IsWholeError sites site origin position x e
    go None there f = absurd f
    go (Some y) there f = by y there f (arrived_at origin position x.senders) refl

-- ---- it stands until it is cleared

module _ (origin : SiteName) (position call : ℕ) (error : ApplyError) (txn : Txn) (before : List Entry) where
  abbrev with_error : List Entry → List Entry
  with_error since = since ++ Error origin position call error txn ∷ before

  abbrev finishing : List Entry → ℕ
  finishing since = count_where (finishes origin position) (with_error since)

  abbrev the_error : ErrorEntry
  the_error = record { origin = origin; position = position; call = call; error = error; txn = txn }

  finishing-some : (since : List Entry) → 1 ≤ finishing since
  finishing-some [] = rw (is_position-own origin position) (omega arith)
  finishing-some (e ∷ since) = go (finishes origin position e) (finishing-some since)
    where
      go : (b : Bool) → 1 ≤ finishing since → 1 ≤ cond b (finishing since + 1) (finishing since)
      go true some = omega (arith, some)
      go false some = some

  fewer : (b : Bool) (n : ℕ) → cond b (n + 1) n ≤ 1 → n ≤ 1
  fewer true n once = let few : n + 1 ≤ 1 = once in omega (arith, few)
  fewer false n once = once

  not_cleared : (b c : Bool) (o : Option ErrorEntry) → (b || c) ≡ false → (c ≡ false → o ≡ Some the_error) → cond b None o ≡ Some the_error
  not_cleared true c o none later = absurd (cc none)
  not_cleared false c o none later = later none

  stands_since : (since : List Entry) → finishing since ≤ 1 → list_any (clears_error origin position) since ≡ false → error_at origin position (with_error since) ≡ Some the_error
  stands_since [] once none = rw (is_position-own origin position) refl
  stands_since (Local number other ∷ since) once none = stands_since since once none
  stands_since (Done o p onward other ∷ since) once none = stands_since since (fewer (is_position origin position o p) (finishing since) once) none
  stands_since (Error o p number why other ∷ since) once none = go (is_position origin position o p) once (λ few. stands_since since few none)
    where
      go : (b : Bool) → cond b (finishing since + 1) (finishing since) ≤ 1 → (finishing since ≤ 1 → error_at origin position (with_error since) ≡ Some the_error)
          → cond b (Some (record { origin = o; position = p; call = number; error = why; txn = other })) (error_at origin position (with_error since)) ≡ Some the_error
      go true once later = let few : finishing since + 1 ≤ 1 = once in absurd (omega (arith, few, finishing-some since))
      go false once later = later once
  stands_since (Executed o p onward other ∷ since) once none =
      not_cleared (is_position origin position o p) (list_any (clears_error origin position) since) (error_at origin position (with_error since)) none (stands_since since once)
  stands_since (Dropped o p ∷ since) once none =
      not_cleared (is_position origin position o p) (list_any (clears_error origin position) since) (error_at origin position (with_error since)) none (stands_since since once)
  stands_since (Refreshed moment ∷ since) once none = stands_since since once none

pub uncleared_errors_stand : InEveryRun EachUnclearedErrorStands
uncleared_errors_stand schema start events is site origin position call error txn since before x found journal none =
    subst (λ (es : List Entry). error_at origin position es ≡ Some standing) (sym journal) (stands_since origin position call error txn before since once none)
  where
    standing : ErrorEntry
    standing = record { origin = origin; position = position; call = call; error = error; txn = txn }

    once : count_where (finishes origin position) (since ++ Error origin position call error txn ∷ before) ≤ 1
    once = subst (λ (es : List Entry). count_where (finishes origin position) es ≤ 1) journal
        (subst (λ (o : Option SiteState). count_where (finishes origin position) (journal_in o) ≤ 1) found (are_finished_once schema start events is site origin position))
