-- What was seen before a transaction is finished wherever the transaction is.
use Rattle.std.proofs.Common.{◌≡◌, ◌≢◌, ℕ, ◌+◌, ◌<◌, ◌≤◌, ◌==◌, List, [], ◌∷◌, Bool, true, false, cond, Some, None, refl, sym, ap, ◌∙◌, subst, inl, inr, arith}
use Rattle.std.specs.Prelude.{◌||◌, ◌&&◌, Option, IfSome, nat_le}
use Rattle.std.specs.List.{list_all}
use Rattle.std.specs.Ordering.{nat_cmp}
use Rattle.std.proofs.lemmas.Cmp.{nat_cmp_total}
use Rattle.std.proofs.lemmas.Map.Lookups.{exact_unsigned}
use Rattle.std.proofs.lemmas.Bool.{and_parts, or_right}
use Rattle.std.proofs.lemmas.Bool.Decides.{nat_tests}
use Rattle.std.specs.declared.cmp.Ordering.{Ordering}
use Rattle.std.specs.declared.cmp.Ordering.TheVariants.{Less, Equal, Greater}
use Rattle.rep_lists.specs.Rising.{find_at, put_at}
use Rattle.rep_lists.proofs.FoundByKey.{find_put_other}
use Rattle.rep_values.specs.declared.name.SiteName.{SiteName}
use Rattle.rep_schema.specs.declared.schema.Schema.{Schema}
use Rattle.rep_calls.specs.declared.past.PastEntry.{PastEntry}
use Rattle.rep_calls.specs.declared.call.Txn.{Txn}
use Rattle.rep_values.specs.SiteNames.{is_same_site}
use Rattle.deferred_queue.proofs.Sites.{is_same_site-true}
use Rattle.packet_code.specs.declared.packet.Packet.{Packet}
use Rattle.packet_code.specs.declared.packet.Packet.TheVariants.{Carry, Mark}
use Rattle.site_state.specs.declared.arrival.Arrival.{Arrival}
use Rattle.site_state.specs.declared.entry.Entry.{Entry}
use Rattle.site_state.specs.declared.entry.Entry.TheVariants.{Local, Done, Error, Executed, Dropped, Refreshed}
use Rattle.site_state.specs.State.{SenderState, SiteState, sender_of, at_sender, arrived_in, first_in, arrival_beside, arrived_at}
use Rattle.site_state.specs.Journal.{is_position, finished, low_water}
use Rattle.site_state.specs.Ready.{arrival_number, covered, is_covered, is_due}
use Rattle.site_state.specs.Packets.{with_arrival, arrived_by, taken_unless, is_foreign, site_accept}
use Rattle.site_state.specs.Purges.{site_purge}
use Rattle.site_state.specs.Fits.{FinishedHaveArrived}
use Rattle.site_state.proofs.LowWater.{low_water-below}
use Rattle.site_state.proofs.Stepping.{MayFollow, IsTaken, with_entry, Steps, arrived_has, is_position-true}
use Rattle.site_state.proofs.Changing.{accept_later}
use Rattle.site_events.specs.Cluster.{Cluster, site_of}
use Rattle.site_events.specs.Joins.{copied}
use Rattle.site_events.specs.Events.{Event, run, receiver}
use Rattle.event_laws.specs.Starts.{IsNewSite, IsStart}
use Rattle.event_laws.specs.Waiting.{IsFirstNumber, SitesLinkAsDeclared}
use Rattle.event_laws.proofs.Sites.{found_all}
use Rattle.event_laws.proofs.Happening.{IsRefreshed, Becomes, here-IsRefreshed, happens_becomes}
use Rattle.event_laws.proofs.Happening as happening
use Rattle.event_laws.proofs.NewSites.{copied_is_new}
use Rattle.event_laws.proofs.RunInvariants.{SentBy, SiteHolds, HoldsAt}
use Rattle.event_laws.proofs.MarkLaws.{arrived_was_sent}
use Rattle.event_laws.proofs.Meeting.{SiteMeets, MeetsAt}
use Rattle.event_laws.proofs.Waiting.{AreMet, run_met, first_of_sender}
use Rattle.convergence_laws.specs.Collections.{Among}
use Rattle.convergence_laws.proofs.SitesAt.{Each, at_each, joined_each}

-- ---- what holds of a site

-- where a position is finished, all that the sender had seen of other sites before it is finished
abbrev pub PastIn : SiteName → List SenderState → List Entry → Type 0
PastIn here senders journal = (origin : SiteName) (p : ℕ) (a : Arrival) → finished origin journal p ≡ true → arrived_at origin p senders ≡ Some a
    → (seen : PastEntry) → Among seen a.past → seen.origin ≢ here → (q : ℕ) → 0 < q → q + first_in (sender_of seen.origin senders) ≤ seen.number → finished seen.origin journal q ≡ true

abbrev pub PastIsFinished : SiteState → Type 0
PastIsFinished x = PastIn x.here.site x.senders x.journal

-- ---- what is due

all_among : {X : Type 0} (p : X → Bool) (xs : List X) (x : X) → list_all p xs ≡ true → Among x xs → p x ≡ true
all_among p [] x all among = absurd among
all_among {X} p (y ∷ ys) x all among = go (p y) refl all among (all_among p ys x)
  where
    go : (b : Bool) → p y ≡ b → (b && list_all p ys) ≡ true → Among x (y ∷ ys) → (list_all p ys ≡ true → Among x ys → p x ≡ true) → p x ≡ true
    go true is all (inl same) later = ap p (sym same) ∙ is
    go true is all (inr among) later = later all among
    go false is all among later = cc

module _ (sites : List SiteState) (site : SiteName) (x : SiteState) (held : SiteHolds sites site x) (meets : SiteMeets sites site x) where
  -- what is covered is finished
  covered_finished : (seen : PastEntry) → seen.number ≤ covered seen.origin x → (q : ℕ) → 0 < q → q + first_in (sender_of seen.origin x.senders) ≤ seen.number → finished seen.origin x.journal q ≡ true
  covered_finished seen within q some up_to = go (low_water seen.origin x.journal) refl (low_water seen.origin x.journal == 0) refl within
    where
      low : ℕ
      low = low_water seen.origin x.journal

      -- what arrived at the mark
      at_mark : (b : Arrival) → arrived_at seen.origin low x.senders ≡ Some b → (s : Option SenderState) → sender_of seen.origin x.senders ≡ s → seen.number ≤ b.number → q ≤ low
      at_mark b there None is le = let none : arrived_at seen.origin low x.senders ≡ None = rw is refl in absurd (cc (none, there))
      at_mark b there (Some s) is le = by (site_of seen.origin sites) refl (arrived_was_sent sites site seen.origin x.senders low b held.senders there) (first_of_sender sites site seen.origin x.senders s meets.firsts is)
        where
          by : (o : Option SiteState) → site_of seen.origin sites ≡ o → SentBy o site b.number b.position b.dep b.txn → IsFirstNumber o site s.first → q ≤ low
          by None at sent first = absurd sent
          by (Some o) at sent first =
              let same : sent.count ≡ s.first = cc (sent.opened, first.0) in
              let place : b.position ≡ low = arrived_has seen.origin low x b there in
              let firsts : first_in (sender_of seen.origin x.senders) ≡ s.first = rw is refl in
              omega (arith, sent.number_is, same, place, firsts, le, up_to)

      found : (b : Option Arrival) → arrived_at seen.origin low x.senders ≡ b → seen.number ≤ arrival_number b → q ≤ low
      found None there le = absurd (omega (arith, le, up_to, some))
      found (Some b) there le = at_mark b there (sender_of seen.origin x.senders) refl le

      go : (n : ℕ) → low ≡ n → (b : Bool) → (n == 0) ≡ b → seen.number ≤ cond (n == 0) (first_in (sender_of seen.origin x.senders)) (arrival_number (find_at (arrival_beside n) (arrived_in (sender_of seen.origin x.senders)))) → finished seen.origin x.journal q ≡ true
      go n same true none le =
          let short : seen.number ≤ first_in (sender_of seen.origin x.senders) = rw none at le in
          absurd (omega (arith, short, up_to, some))
      go n same false above le =
          let long : seen.number ≤ arrival_number (find_at (arrival_beside n) (arrived_in (sender_of seen.origin x.senders))) = rw above at le in
          low_water-below seen.origin x.journal q some
          (found (arrived_at seen.origin low x.senders) refl (subst (λ (m : ℕ). seen.number ≤ arrival_number (find_at (arrival_beside m) (arrived_in (sender_of seen.origin x.senders)))) (sym same) long))

  -- so is all that was seen before what is due
  pub due_finished : (origin : SiteName) (a : Arrival) → is_due origin x a ≡ true → (seen : PastEntry) → Among seen a.past → seen.origin ≢ x.here.site
      → (q : ℕ) → 0 < q → q + first_in (sender_of seen.origin x.senders) ≤ seen.number → finished seen.origin x.journal q ≡ true
  due_finished origin a due seen among apart q some up_to =
      go (is_same_site seen.origin x.here.site) refl (all_among (is_covered x) a.past seen (and_parts (nat_le a.dep (low_water origin x.journal)) (list_all (is_covered x) a.past) due).1 among)
    where
      go : (b : Bool) → is_same_site seen.origin x.here.site ≡ b → (b || nat_le seen.number (covered seen.origin x)) ≡ true → finished seen.origin x.journal q ≡ true
      go true own is = absurd (apart (is_same_site-true seen.origin x.here.site own))
      go false own is = let within : seen.number ≤ covered seen.origin x = grind (arith, nat_tests) in covered_finished seen within q some up_to

  -- one that is taken
  taken_past : (o : SiteName) (p : ℕ) (txn : Txn) (e : Entry) → IsTaken x o p txn → ((origin : SiteName) (q : ℕ) → finished origin x.journal q ≡ true → finished origin (e ∷ x.journal) q ≡ true)
      → ((origin : SiteName) (q : ℕ) → finished origin (e ∷ x.journal) q ≡ true → (is_position origin q o p || finished origin x.journal q) ≡ true) → PastIsFinished x → PastIn x.here.site x.senders (e ∷ x.journal)
  taken_past o p txn e taken more is before origin q a done there seen among apart n some up_to = go (is_position origin q o p) refl (is origin q done)
    where
      go : (b : Bool) → is_position origin q o p ≡ b → (b || finished origin x.journal q) ≡ true → finished seen.origin (e ∷ x.journal) n ≡ true
      go true here now =
          let same = is_position-true origin o q p here in
          let at : arrived_at origin q x.senders ≡ Some taken.arrival = rw (← same.0, ← same.1) taken.there in
          let one : taken.arrival ≡ a = cc (at, there) in
          more seen.origin n (due_finished o taken.arrival taken.due seen (subst (λ (b : Arrival). Among seen b.past) (sym one) among) apart n some up_to)
      go false here now = more seen.origin n (before origin q a now there seen among apart n some up_to)

  pub entry_past : (e : Option Entry) → IfSome e (MayFollow x) → PastIsFinished x → PastIn x.here.site x.senders (with_entry e x.journal)
  entry_past None follows before = before
  entry_past (Some (Local number txn)) follows before = before
  entry_past (Some (Done o p onward txn)) follows before = taken_past o p txn (Done o p onward txn) follows (λ origin q done. rw done (or_right (is_position origin q o p) true refl)) (λ origin q done. done) before
  entry_past (Some (Error o p call error txn)) follows before = taken_past o p txn (Error o p call error txn) follows (λ origin q done. rw done (or_right (is_position origin q o p) true refl)) (λ origin q done. done) before
  entry_past (Some (Executed o p onward txn)) follows before = before
  entry_past (Some (Dropped o p)) follows before = before
  entry_past (Some (Refreshed moment)) follows before = before

-- ---- a packet comes

first_put : (origin from : SiteName) (a : Arrival) (ss : List SenderState) → first_in (sender_of origin (at_sender from (with_arrival a) ss)) ≡ first_in (sender_of origin ss)
first_put origin from a [] = refl
first_put origin from a (s ∷ ss) = go (is_same_site s.origin from) (is_same_site s.origin origin) refl (first_put origin from a ss)
  where
    go : (b c : Bool) → is_same_site s.origin origin ≡ c → first_in (sender_of origin (at_sender from (with_arrival a) ss)) ≡ first_in (sender_of origin ss)
        → first_in (sender_of origin (cond b (with_arrival a s ∷ ss) (s ∷ at_sender from (with_arrival a) ss))) ≡ first_in (cond (is_same_site s.origin origin) (Some s) (sender_of origin ss))
    go true true is later = rw is refl
    go true false is later = rw is refl
    go false true is later = rw is refl
    go false false is later = rw is later

find_put_same : (a : Arrival) (p : ℕ) (xs : List Arrival) → find_at (arrival_beside a.position) xs ≡ None → find_at (arrival_beside p) xs ≢ None → find_at (arrival_beside p) (put_at (arrival_beside a.position) a xs) ≡ find_at (arrival_beside p) xs
find_put_same a p xs none there = go (nat_cmp a.position p) refl
  where
    Goal : Type 0
    Goal = find_at (arrival_beside p) (put_at (arrival_beside a.position) a xs) ≡ find_at (arrival_beside p) xs

    other : nat_cmp a.position p ≢ Equal → Goal
    other off = find_put_other (λ (a : Arrival). a.position) nat_cmp nat_cmp_total a p xs off

    go : (o : Ordering) → nat_cmp a.position p ≡ o → Goal
    go Less is = other (λ e. absurd (cc (e, is)))
    go Equal is = absurd (there (subst (λ q. find_at (arrival_beside q) xs ≡ None) (exact_unsigned a.position p is) none))
    go Greater is = other (λ e. absurd (cc (e, is)))

-- what had arrived at a position is the same
arrived_put : (origin from : SiteName) (p : ℕ) (a : Arrival) (ss : List SenderState) → arrived_at from a.position ss ≡ None → arrived_at origin p ss ≢ None
    → arrived_at origin p (at_sender from (with_arrival a) ss) ≡ arrived_at origin p ss
arrived_put origin from p a [] none there = refl
arrived_put origin from p a (s ∷ ss) none there = go (is_same_site s.origin from) refl (is_same_site s.origin origin) refl none there (arrived_put origin from p a ss)
  where
    go : (b : Bool) → is_same_site s.origin from ≡ b → (c : Bool) → is_same_site s.origin origin ≡ c → find_at (arrival_beside a.position) (arrived_in (cond b (Some s) (sender_of from ss))) ≡ None
        → find_at (arrival_beside p) (arrived_in (cond c (Some s) (sender_of origin ss))) ≢ None
        → (arrived_at from a.position ss ≡ None → arrived_at origin p ss ≢ None → arrived_at origin p (at_sender from (with_arrival a) ss) ≡ arrived_at origin p ss)
        → find_at (arrival_beside p) (arrived_in (sender_of origin (cond b (with_arrival a s ∷ ss) (s ∷ at_sender from (with_arrival a) ss)))) ≡ find_at (arrival_beside p) (arrived_in (cond c (Some s) (sender_of origin ss)))
    go true own true is none there later = rw is (find_put_same a p s.arrived none there)
    go true own false is none there later = rw is refl
    go false own true is none there later = rw is refl
    go false own false is none there later = rw is (later none there)

accept_past : (packet : Packet) (x : SiteState) → FinishedHaveArrived x.journal x.senders → PastIsFinished x → PastIsFinished (site_accept packet x)
accept_past packet x arrived before = go packet (is_foreign packet x)
  where
    by : (from : SiteName) (a : Arrival) (found : Option Arrival) → arrived_at from a.position x.senders ≡ found → PastIsFinished (arrived_by found from a x)
    by from a (Some b) none = before
    by from a None none = λ origin p b done there seen among apart q some up_to.
        before origin p b done (sym (arrived_put origin from p a x.senders none (arrived origin p done)) ∙ there) seen among apart q some
        (subst (λ (n : ℕ). q + n ≤ seen.number) (first_put seen.origin from a x.senders) up_to)

    go : (packet : Packet) (b : Bool) → PastIsFinished (taken_unless b packet x)
    go packet true = before
    go (Carry from to number position dep past txn) false = by from (record { position = position; number = number; dep = dep; past = past; txn = txn }) (arrived_at from position x.senders) refl
    go (Mark from to mark) false = before

-- ---- every event

module _ (schema : Schema) where
  pub held_at : (xs : List SiteState) (sent : List Packet) → AreMet schema xs sent → (name : SiteName) (x : SiteState) → site_of name xs ≡ Some x → SiteHolds xs name x
  held_at xs sent met name x found = subst (HoldsAt xs name) found (met.holds.each name)

  pub meets_at : (xs : List SiteState) (sent : List Packet) → AreMet schema xs sent → (name : SiteName) (x : SiteState) → site_of name xs ≡ Some x → SiteMeets xs name x
  meets_at xs sent met name x found = subst (MeetsAt xs name) found (met.meets.each name)

  refreshed_past : (xs : List SiteState) (sent : List Packet) → AreMet schema xs sent → (name : SiteName) (x y : SiteState) → site_of name xs ≡ Some x → IsRefreshed xs x y → PastIsFinished x → PastIsFinished y
  refreshed_past xs sent met name x _ found happening.Not before = before
  refreshed_past xs sent met name x _ found (happening.From master there is) before = before

  steps_past : (xs : List SiteState) (sent : List Packet) → AreMet schema xs sent → (name : SiteName) (x y : SiteState) → site_of name xs ≡ Some x → Steps x y → PastIsFinished x → PastIsFinished y
  steps_past xs sent met name x y found s before =
      rw (s.here, s.senders, s.journals.journal) (entry_past xs name x (held_at xs sent met name x found) (meets_at xs sent met name x found) s.journals.entry s.journals.follows before)

  becomes_past : (xs : List SiteState) (sent : List Packet) (ys : List SiteState) (more : List Packet) → Becomes xs sent ys more → AreMet schema xs sent → Each PastIsFinished xs → Each PastIsFinished ys
  becomes_past xs sent _ _ happening.Stays met all = all
  becomes_past xs sent _ _ (happening.Journalled name change steps) met all =
      at_each PastIsFinished name change xs (λ x. (steps x).here) (λ x found before. steps_past xs sent met name x (change x) found (steps x) before) all
  becomes_past xs sent _ _ (happening.Sends from to position) met all = all
  becomes_past xs sent _ _ (happening.Marks from to) met all = all
  becomes_past xs sent _ _ (happening.Delivers packet which is) met all =
      at_each PastIsFinished (receiver packet) (site_accept packet) xs (λ x. (accept_later packet x).here) (λ x found before. accept_past packet x (meets_at xs sent met (receiver packet) x found).arrived before) all
  becomes_past xs sent _ _ (happening.Purges name) met all = at_each PastIsFinished name site_purge xs (λ x. refl) (λ x found before. before) all
  becomes_past xs sent _ _ (happening.Refreshes name change refreshed) met all =
      at_each PastIsFinished name change xs (λ x. here-IsRefreshed xs x (change x) (refreshed x)) (λ x found before. refreshed_past xs sent met name x (change x) found (refreshed x) before) all
  becomes_past xs sent _ _ (happening.Joins site from source absent found may) met all =
      joined_each PastIsFinished xs source site (λ x before. before) (nothing_past (copied xs source site) (copied_is_new xs source site).journal) all
    where
      nothing_past : (x : SiteState) → x.journal ≡ [] → PastIsFinished x
      nothing_past x none origin p a done = absurd (cc (done, none))

-- after every list of events, at each site
pub past_is_finished : (schema : Schema) (start : Cluster) → IsStart schema start → SitesLinkAsDeclared schema start.sites → (events : List Event) → Each PastIsFinished (run events start).sites
past_is_finished schema start is meshed [] = λ name x found origin p a done. nothing x (found_all (IsNewSite schema) name start.sites x is.sites found).journal origin p done
  where
    nothing : (x : SiteState) → x.journal ≡ [] → (origin : SiteName) (p : ℕ) → finished origin x.journal p ≡ true → {A : Type 0} → A
    nothing x none origin p done = absurd (cc (done, none))
past_is_finished schema start is meshed (e ∷ es) =
    becomes_past schema _ _ _ _ (happens_becomes e (run es start)) (run_met schema start es is meshed) (past_is_finished schema start is meshed es)
