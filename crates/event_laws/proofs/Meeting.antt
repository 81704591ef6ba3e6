-- What every packet and arrival tells of the past is what its sender had seen, and streams meet.
use Rattle.std.proofs.Common.{◌≡◌, ◌≢◌, ℕ, ◌+◌, ◌≤◌, List, [], ◌∷◌, length, Bool, true, false, cond, Some, None, refl, sym, ap, ◌∙◌, arith, subst}
use Rattle.std.specs.Prelude.{◌||◌, ◌&&◌, not, nat_le, Option, option_map, is_some, is_none}
use Rattle.std.specs.List.{list_all, AllByRecursion}
use Rattle.std.proofs.lemmas.Bool.Decides.{nat_tests}
use Rattle.rep_lists.proofs.Rising.{all_put}
use Rattle.rep_values.specs.declared.name.SiteName.{SiteName}
use Rattle.rep_schema.specs.declared.schema.Schema.{Schema}
use Rattle.rep_calls.specs.declared.call.Txn.{Txn}
use Rattle.rep_calls.specs.declared.past.PastEntry.{PastEntry}
use Rattle.conflict_detect.specs.FitTests.{txn_fits}
use Rattle.deferred_queue.specs.Streams.{at_position}
use Rattle.rep_values.specs.SiteNames.{is_same_site}
use Rattle.deferred_queue.proofs.Sites.{is_same_site-true}
use Rattle.deferred_queue.proofs.Positions.{at_position-within, found_position}
use Rattle.packet_code.specs.declared.packet.Packet.{Packet}
use Rattle.packet_code.specs.declared.packet.Packet.TheVariants.{Carry, Mark}
use Rattle.site_state.specs.declared.arrival.Arrival.{Arrival}
use Rattle.site_state.specs.State.{SenderState, SiteState, sender_of, at_sender, arrival_beside, arrived_at, opened_of}
use Rattle.rep_schema.specs.Sites.{is_master_site}
use Rattle.site_state.specs.Streams.{with_one, queue_of, count_of, stream_to, stream_in}
use Rattle.site_state.specs.Pasts.{pasts_of}
use Rattle.site_state.specs.Packets.{past_in, count_opened, stream_number, past_before, carry_of, packet_found, is_known_past, with_arrival, arrived_by, taken_unless, is_foreign, site_accept}
use Rattle.site_state.specs.Purges.{site_purge}
use Rattle.site_state.proofs.Growing.{length-queued_behind, queued_behind-none, at_position-append}
use Rattle.site_state.proofs.Stepping.{Steps}
use Rattle.site_state.proofs.Changing.{accept_later}
use Rattle.site_state.specs.Fits.{FinishedHaveArrived}
use Rattle.site_state.proofs.Pasts.{arrived_at-put, finished_have_arrived, length-pasts_after}
use Rattle.site_state.proofs.Queueing.{Adds, adds_nothing, steps_add, accept_adds, purge_adds, refresh_adds}
use Rattle.site_state.specs.Contents.{tables_of}
use Rattle.site_events.specs.Rules.{rows_ruled}
use Rattle.site_events.specs.Cluster.{site_of, at_site}
use Rattle.site_events.specs.Events.{with_packet, packet_from, mark_from, receiver}
use Rattle.event_laws.specs.Waiting.{IsFirstNumber, AreFirsts, AbsentAreClosed}
use Rattle.event_laws.proofs.Sites.{KeepsHere, at_split, found_again}
use Rattle.event_laws.proofs.Happening.{IsRefreshed}
use Rattle.event_laws.proofs.Happening as happening

-- ---- what holds

-- a sender that is there had seen this when it queued a number
abbrev pub PastIs : Option SiteState → ℕ → List PastEntry → Type 0
PastIs None number past = ⊥
PastIs (Some o) number past = at_position number (pasts_of o) ≡ Some past

abbrev pub PacketPast : List SiteState → Packet → Type 0
PacketPast sites (Carry from to number position dep past txn) = PastIs (site_of from sites) number past
PacketPast sites (Mark from to mark) = Unit {0}

-- what was seen is of the site itself or one of its senders
abbrev pub is_known : SiteName → List SenderState → PastEntry → Bool
is_known here senders seen = is_same_site seen.origin here || is_some (sender_of seen.origin senders)

-- what holds of each arrival with its sender
abbrev pub EachArrival : (SenderState → Arrival → Type 0) → List SenderState → Type 0
EachArrival P senders = AllByRecursion (λ (s : SenderState). AllByRecursion (P s) s.arrived) senders

abbrev pub HasPast : List SiteState → SenderState → Arrival → Type 0
HasPast sites s a = PastIs (site_of s.origin sites) a.number a.past

abbrev pub KnowsPast : SiteName → List SenderState → SenderState → Arrival → Type 0
KnowsPast here senders s a = list_all (is_known here senders) a.past ≡ true

pub record SiteMeets (sites : List SiteState) (site : SiteName) (x : SiteState) : Type 0 where
  pub arrived : FinishedHaveArrived x.journal x.senders
  pub known : EachArrival (KnowsPast x.here.site x.senders) x.senders
  pub pasts : EachArrival (HasPast sites) x.senders
  pub firsts : AreFirsts sites site (Some x)

abbrev pub MeetsAt : List SiteState → SiteName → Option SiteState → Type 0
MeetsAt sites site None = Unit {0}
MeetsAt sites site (Some x) = SiteMeets sites site x

pub record Meets (sites : List SiteState) (sent : List Packet) : Type 0 where
  pub packets : AllByRecursion (PacketPast sites) sent
  pub each : (site : SiteName) → MeetsAt sites site (site_of site sites)

-- ---- the same sites, which queue at most one transaction more

abbrev pub AddsIn : Option SiteState → Option SiteState → Type 0
AddsIn None None = Unit {0}
AddsIn None (Some y) = ⊥
AddsIn (Some x) None = ⊥
AddsIn (Some x) (Some y) = Adds x y

abbrev pub AllAdd : List SiteState → List SiteState → Type 0
AllAdd xs ys = (site : SiteName) → AddsIn (site_of site xs) (site_of site ys)

front_position : {X : Type 0} (b : Bool) (x y : X) (xs : List X) (p : ℕ) → at_position p xs ≡ Some y → at_position p (with_one b x xs) ≡ Some y
front_position true x y xs p is = at_position-append (x ∷ []) xs p y is
front_position false x y xs p is = is

front_longer : {X : Type 0} (b : Bool) (x : X) (xs : List X) → length xs ≤ length (with_one b x xs)
front_longer true x xs = omega arith
front_longer false x xs = omega arith

pub count_of-adds : (x y : SiteState) → Adds x y → count_of x ≤ count_of y
count_of-adds x y adds = rw adds.queue (front_longer adds.queues adds.txn (queue_of x))

past_later : (o u : Option SiteState) (number : ℕ) (past : List PastEntry) → AddsIn o u → PastIs o number past → PastIs u number past
past_later None u number past adds is = absurd is
past_later (Some x) None number past adds is = absurd adds
past_later (Some x) (Some y) number past adds is = rw adds.pasts (front_position adds.queues _ past (pasts_of x) number is)

first_later : (o u : Option SiteState) (site : SiteName) (first : ℕ) → AddsIn o u → IsFirstNumber o site first → IsFirstNumber u site first
first_later None None site first adds is = is
first_later None (Some y) site first adds is = absurd adds
first_later (Some x) None site first adds is = absurd adds
first_later (Some x) (Some y) site first adds is = (adds.opened site ∙ is.0, omega (arith, is.1, count_of-adds x y adds))

-- what a packet tells goes on to hold where pasts do
pub packets_past : (xs ys : List SiteState) (sent : List Packet) → ((from : SiteName) (number : ℕ) (past : List PastEntry) → PastIs (site_of from xs) number past → PastIs (site_of from ys) number past)
    → AllByRecursion (PacketPast xs) sent → AllByRecursion (PacketPast ys) sent
packets_past xs ys [] later holds = tt
packets_past xs ys (Carry from to number position dep past txn ∷ sent) later holds = (later from number past holds.0, packets_past xs ys sent later holds.1)
packets_past xs ys (Mark from to mark ∷ sent) later holds = (tt, packets_past xs ys sent later holds.1)

arrivals_map : (P Q : Arrival → Type 0) → ((a : Arrival) → P a → Q a) → (arrived : List Arrival) → AllByRecursion P arrived → AllByRecursion Q arrived
arrivals_map P Q implies [] all = tt
arrivals_map P Q implies (a ∷ arrived) all = (implies a all.0, arrivals_map P Q implies arrived all.1)

pub each_map : (P Q : SenderState → Arrival → Type 0) → ((s : SenderState) (a : Arrival) → P s a → Q s a) → (ss : List SenderState) → EachArrival P ss → EachArrival Q ss
each_map P Q implies [] all = tt
each_map P Q implies (s ∷ ss) all = (arrivals_map (P s) (Q s) (implies s) s.arrived all.0, each_map P Q implies ss all.1)

firsts_later : (xs ys : List SiteState) (site : SiteName) (ss : List SenderState) → AllAdd xs ys → AllByRecursion (λ (s : SenderState). IsFirstNumber (site_of s.origin xs) site s.first) ss
    → AllByRecursion (λ (s : SenderState). IsFirstNumber (site_of s.origin ys) site s.first) ss
firsts_later xs ys site [] adds all = tt
firsts_later xs ys site (s ∷ ss) adds all = (first_later (site_of s.origin xs) (site_of s.origin ys) site s.first (adds s.origin) all.0, firsts_later xs ys site ss adds all.1)

meets_later : (xs ys : List SiteState) (site : SiteName) (x : SiteState) → AllAdd xs ys → SiteMeets xs site x → SiteMeets ys site x
meets_later xs ys site x adds meets = record {
  arrived = meets.arrived;
  known = meets.known;
  pasts = each_map (HasPast xs) (HasPast ys) (λ s a is. past_later (site_of s.origin xs) (site_of s.origin ys) a.number a.past (adds s.origin) is) x.senders meets.pasts;
  firsts = firsts_later xs ys site x.senders adds meets.firsts;
}

-- ---- a change of one site

-- what it owes, of the site as it is
pub record KeepsMeeting (sites : List SiteState) (name : SiteName) (change : SiteState → SiteState) : Type 0 where
  pub here : KeepsHere change
  pub adds : (x : SiteState) → SiteMeets sites name x → Adds x (change x)
  pub meets : (x : SiteState) → SiteMeets sites name x → SiteMeets sites name (change x)

adds_in_same : (o : Option SiteState) → AddsIn o o
adds_in_same None = tt
adds_in_same (Some x) = adds_nothing x

pub all_add_same : (xs : List SiteState) → AllAdd xs xs
all_add_same xs site = adds_in_same (site_of site xs)

pub at_adds : (sites : List SiteState) (name : SiteName) (change : SiteState → SiteState) → KeepsMeeting sites name change → ((site : SiteName) → MeetsAt sites site (site_of site sites)) → AllAdd sites (at_site name change sites)
at_adds sites name change keeps each site =
    at_split (AddsIn (site_of site sites)) name site change sites keeps.here (λ e. own e (site_of site sites) (each site)) (adds_in_same (site_of site sites))
  where
    own : name ≡ site → (o : Option SiteState) → MeetsAt sites site o → AddsIn o (option_map change o)
    own e None meets = tt
    own e (Some x) meets = keeps.adds x (subst (λ (s : SiteName). SiteMeets sites s x) (sym e) meets)

pub at_meets : (sites : List SiteState) (sent : List Packet) (name : SiteName) (change : SiteState → SiteState) → KeepsMeeting sites name change → Meets sites sent → Meets (at_site name change sites) sent
at_meets sites sent name change keeps meets = record {
  packets = packets_past sites ys sent (λ from number past is. past_later (site_of from sites) (site_of from ys) number past (all from) is) meets.packets;
  each = λ site. at_split (MeetsAt ys site) name site change sites keeps.here (λ e. own site e (site_of site sites) (meets.each site)) (other site (site_of site sites) (meets.each site));
}
  where
    ys : List SiteState
    ys = at_site name change sites

    all : AllAdd sites ys
    all = at_adds sites name change keeps meets.each

    own : (site : SiteName) → name ≡ site → (o : Option SiteState) → MeetsAt sites site o → MeetsAt ys site (option_map change o)
    own site e None meets = tt
    own site e (Some x) meets = meets_later sites ys site (change x) all (subst (λ (s : SiteName). SiteMeets sites s (change x)) e (keeps.meets x (subst (λ (s : SiteName). SiteMeets sites s x) (sym e) meets)))

    other : (site : SiteName) (o : Option SiteState) → MeetsAt sites site o → MeetsAt ys site o
    other site None meets = tt
    other site (Some x) meets = meets_later sites ys site x all meets

pub steps_meet : (sites : List SiteState) (name : SiteName) (change : SiteState → SiteState) → ((x : SiteState) → Steps x (change x)) → KeepsMeeting sites name change
steps_meet sites name change steps = record {
  here = λ x. (steps x).here;
  adds = λ x meets. steps_add x (change x) (steps x);
  meets = λ x meets. record {
    arrived = rw ((steps x).senders, (steps x).journals.journal) (finished_have_arrived x (steps x).journals.entry (steps x).journals.follows meets.arrived);
    known = rw ((steps x).senders, (steps x).here) meets.known;
    pasts = rw (steps x).senders meets.pasts;
    firsts = rw (steps x).senders meets.firsts;
  };
}

-- ---- a packet comes

-- what holds of senders' names and arrivals
each_put : (P : SiteName → Arrival → Type 0) (from : SiteName) (a : Arrival) (ss : List SenderState) → P from a → EachArrival (λ s. P s.origin) ss → EachArrival (λ s. P s.origin) (at_sender from (with_arrival a) ss)
each_put P from a [] is all = tt
each_put P from a (s ∷ ss) is all = go (is_same_site s.origin from) refl (each_put P from a ss is all.1)
  where
    go : (b : Bool) → is_same_site s.origin from ≡ b → EachArrival (λ s. P s.origin) (at_sender from (with_arrival a) ss) → EachArrival (λ s. P s.origin) (cond b (with_arrival a s ∷ ss) (s ∷ at_sender from (with_arrival a) ss))
    go true same later = (all_put (arrival_beside a.position) (P s.origin) a s.arrived (rw (is_same_site-true s.origin from same) is) all.0, all.1)
    go false same later = (all.0, later)

firsts_put : (sites : List SiteState) (site from : SiteName) (a : Arrival) (ss : List SenderState) → AllByRecursion (λ (s : SenderState). IsFirstNumber (site_of s.origin sites) site s.first) ss
    → AllByRecursion (λ (s : SenderState). IsFirstNumber (site_of s.origin sites) site s.first) (at_sender from (with_arrival a) ss)
firsts_put sites site from a [] all = tt
firsts_put sites site from a (s ∷ ss) all = go (is_same_site s.origin from) (firsts_put sites site from a ss all.1)
  where
    go : (b : Bool) → AllByRecursion (λ (s : SenderState). IsFirstNumber (site_of s.origin sites) site s.first) (at_sender from (with_arrival a) ss)
        → AllByRecursion (λ (s : SenderState). IsFirstNumber (site_of s.origin sites) site s.first) (cond b (with_arrival a s ∷ ss) (s ∷ at_sender from (with_arrival a) ss))
    go true later = (all.0, all.1)
    go false later = (all.0, later)

is_some-sender_of : (origin from : SiteName) (a : Arrival) (ss : List SenderState) → is_some (sender_of origin (at_sender from (with_arrival a) ss)) ≡ is_some (sender_of origin ss)
is_some-sender_of origin from a [] = refl
is_some-sender_of origin from a (s ∷ ss) = go (is_same_site s.origin from) (is_same_site s.origin origin) refl (is_some-sender_of origin from a ss)
  where
    go : (b c : Bool) → is_same_site s.origin origin ≡ c → is_some (sender_of origin (at_sender from (with_arrival a) ss)) ≡ is_some (sender_of origin ss)
        → is_some (sender_of origin (cond b (with_arrival a s ∷ ss) (s ∷ at_sender from (with_arrival a) ss))) ≡ is_some (cond (is_same_site s.origin origin) (Some s) (sender_of origin ss))
    go true true is later = rw is refl
    go true false is later = rw is refl
    go false true is later = rw is refl
    go false false is later = rw is later

all_weaker : (p q : PastEntry → Bool) (xs : List PastEntry) → ((x : PastEntry) → p x ≡ true → q x ≡ true) → list_all p xs ≡ true → list_all q xs ≡ true
all_weaker p q [] implies all = refl
all_weaker p q (x ∷ xs) implies all = by (p x) refl (all_weaker p q xs implies) all
  where
    by : (b : Bool) → p x ≡ b → (list_all p xs ≡ true → list_all q xs ≡ true) → (b && list_all p xs) ≡ true → (q x && list_all q xs) ≡ true
    by true is later all = rw (implies x is) (later all)
    by false is later all = cc

known_put : (here from : SiteName) (a : Arrival) (ss : List SenderState) (past : List PastEntry) → list_all (is_known here ss) past ≡ true → list_all (is_known here (at_sender from (with_arrival a) ss)) past ≡ true
known_put here from a ss past known = all_weaker (is_known here ss) (is_known here (at_sender from (with_arrival a) ss)) past (λ q is. rw (is_some-sender_of q.origin from a ss) is) known

last_false : (a b c d : Bool) → (a || b || c || d) ≡ false → d ≡ false
last_false true b c d is = cc
last_false false true c d is = cc
last_false false false true d is = cc
last_false false false false d is = is

not_false : (b : Bool) → not b ≡ false → b ≡ true
not_false true is = refl
not_false false is = cc

known_weaker : (x : SiteState) (seen : PastEntry) → is_known_past x seen ≡ true → is_known x.here.site x.senders seen ≡ true
known_weaker x seen is = go (is_same_site seen.origin x.here.site) (is_master_site x.schema seen.origin) is
  where
    go : (b c : Bool) → (b || (c && is_some (sender_of seen.origin x.senders))) ≡ true → (b || is_some (sender_of seen.origin x.senders)) ≡ true
    go true c is = refl
    go false true is = is
    go false false is = cc

accept_site_meets : (sites : List SiteState) (packet : Packet) → PacketPast sites packet → (x : SiteState) → SiteMeets sites (receiver packet) x → SiteMeets sites (receiver packet) (site_accept packet x)
accept_site_meets sites packet is x meets = go packet is meets (is_foreign packet x) refl
  where
    by : (from to : SiteName) (a : Arrival) → PastIs (site_of from sites) a.number a.past → list_all (is_known x.here.site x.senders) a.past ≡ true → SiteMeets sites to x → (found : Option Arrival) → SiteMeets sites to (arrived_by found from a x)
    by from to a is known meets (Some before) = meets
    by from to a is known meets None = record {
      arrived = λ origin p done. arrived_at-put origin from p a x.senders (meets.arrived origin p done);
      known = each_put (λ origin b. list_all (is_known x.here.site (at_sender from (with_arrival a) x.senders)) b.past ≡ true) from a x.senders (known_put x.here.site from a x.senders a.past known)
          (each_map (KnowsPast x.here.site x.senders) (KnowsPast x.here.site (at_sender from (with_arrival a) x.senders)) (λ s b k. known_put x.here.site from a x.senders b.past k) x.senders meets.known);
      pasts = each_put (λ origin b. PastIs (site_of origin sites) b.number b.past) from a x.senders is meets.pasts;
      firsts = firsts_put sites to from a x.senders meets.firsts;
    }

    go : (packet : Packet) → PacketPast sites packet → SiteMeets sites (receiver packet) x → (b : Bool) → is_foreign packet x ≡ b → SiteMeets sites (receiver packet) (taken_unless b packet x)
    go packet is meets true foreign = meets
    go (Carry from to number position dep past txn) is meets false foreign =
        by from to _ is (all_weaker (is_known_past x) (is_known x.here.site x.senders) past (known_weaker x)
        (not_false _ (last_false (not (is_same_site to x.here.site)) (is_none (sender_of from x.senders)) (not (txn_fits x.schema txn)) (not (list_all (is_known_past x) past)) foreign)))
        meets (arrived_at from position x.senders)
    go (Mark from to mark) is meets false foreign = record { arrived = meets.arrived; known = meets.known; pasts = meets.pasts; firsts = meets.firsts }

pub accept_meets : (sites : List SiteState) (packet : Packet) → PacketPast sites packet → KeepsMeeting sites (receiver packet) (site_accept packet)
accept_meets sites packet is = record {
  here = λ x. (accept_later packet x).here;
  adds = λ x meets. accept_adds packet x meets.arrived;
  meets = λ x meets. accept_site_meets sites packet is x meets;
}

-- ---- a purge and a refresh

pub purge_meets : (sites : List SiteState) (name : SiteName) → KeepsMeeting sites name site_purge
purge_meets sites name = record {
  here = λ x. refl;
  adds = λ x meets. purge_adds x;
  meets = λ x meets. record { arrived = meets.arrived; known = meets.known; pasts = meets.pasts; firsts = meets.firsts };
}

pub refreshed_meets : (sites : List SiteState) (name : SiteName) (change : SiteState → SiteState) → ((x : SiteState) → IsRefreshed sites x (change x)) → KeepsMeeting sites name change
refreshed_meets sites name change refreshed = record {
  here = λ x. here x (change x) (refreshed x);
  adds = λ x meets. adds x (change x) (refreshed x);
  meets = λ x meets. by x (change x) (refreshed x) meets;
}
  where
    here : (x y : SiteState) → IsRefreshed sites x y → y.here ≡ x.here
    here x _ happening.Not = refl
    here x _ (happening.From master found is) = refl

    adds : (x y : SiteState) → IsRefreshed sites x y → Adds x y
    adds x _ happening.Not = adds_nothing x
    adds x _ (happening.From master found is) = refresh_adds (rows_ruled x.schema (tables_of master) x.snapshots) master.moment x is

    by : (x y : SiteState) → IsRefreshed sites x y → SiteMeets sites name x → SiteMeets sites name y
    by x _ happening.Not meets = meets
    by x _ (happening.From master found is) meets = record { arrived = meets.arrived; known = meets.known; pasts = meets.pasts; firsts = meets.firsts }

-- ---- what is sent

-- a position of an open stream has a number that was queued, and so a past
has_past : (to : SiteName) (position count : ℕ) (x : SiteState) (txn : Txn) → opened_of to x ≡ Some count → at_position position (stream_to to x) ≡ Some txn → at_position (count + position) (pasts_of x) ≢ None
has_past to position count x txn opened there = go (nat_le count (length (queue_of x))) refl
  where
    in_stream : at_position position (stream_in (Some count) (queue_of x)) ≡ Some txn
    in_stream = rw opened at there

    place : (1 ≤ position) × (position ≤ length (stream_in (Some count) (queue_of x)))
    place = found_position position (stream_in (Some count) (queue_of x)) txn in_stream

    go : (b : Bool) → nat_le count (length (queue_of x)) ≡ b → at_position (count + position) (pasts_of x) ≢ None
    go true is =
        let within : count ≤ length (queue_of x) = grind (arith, nat_tests) in
        let sum = length-queued_behind count (queue_of x) within in
        let many = length-pasts_after x.schema x.here x.base x.senders x.journal in
        at_position-within (count + position) (pasts_of x) (omega (arith, place.0)) (omega (arith, place.1, sum, many))
    go false is =
        let above : length (queue_of x) ≤ count = grind (arith, nat_tests) in
        absurd (omega (arith, place.0, place.1, ap length (queued_behind-none count (queue_of x) above)))

pub sends_meet : (sites : List SiteState) (sent : List Packet) (from to : SiteName) (position : ℕ) → Meets sites sent → Meets sites (with_packet (packet_from to position (site_of from sites)) sent)
sends_meet sites sent from to position meets = by (site_of from sites) refl
  where
    past : (x : SiteState) (o : Option (List PastEntry)) → at_position (stream_number to position x) (pasts_of x) ≡ o → o ≢ None → at_position (stream_number to position x) (pasts_of x) ≡ Some (past_in o)
    past x None is some = absurd (some refl)
    past x (Some p) is some = is

    numbered : (x : SiteState) (txn : Txn) → at_position position (stream_to to x) ≡ Some txn → (o : Option ℕ) → opened_of to x ≡ o → at_position (stream_number to position x) (pasts_of x) ≢ None
    numbered x txn there None is = let none : at_position position (stream_in None (queue_of x)) ≡ Some txn = rw is at there in absurd (cc none)
    numbered x txn there (Some count) is = subst (λ (n : ℕ). at_position n (pasts_of x) ≢ None) (sym (ap (λ o. count_opened o + position) is)) (has_past to position count x txn is there)

    one : (x : SiteState) (txn : Txn) → site_of from sites ≡ Some x → at_position position (stream_to to x) ≡ Some txn → PacketPast sites (carry_of to position x txn)
    one x txn found there = subst (λ (o : Option SiteState). PastIs o (stream_number to position x) (past_before (stream_number to position x) x)) (sym (found_again from sites x found))
        (past x (at_position (stream_number to position x) (pasts_of x)) refl (numbered x txn there (opened_of to x) refl))

    kept : (x : SiteState) (txn : Txn) → site_of from sites ≡ Some x → at_position position (stream_to to x) ≡ Some txn → (b : Bool) → Meets sites (with_packet (cond b None (Some (carry_of to position x txn))) sent)
    kept x txn found there true = meets
    kept x txn found there false = record { packets = (one x txn found there, meets.packets); each = meets.each }

    go : (x : SiteState) → site_of from sites ≡ Some x → (t : Option Txn) → at_position position (stream_to to x) ≡ t → Meets sites (with_packet (packet_found to position x t) sent)
    go x found None there = meets
    go x found (Some txn) there = kept x txn found there (nat_le (stream_number to position x) x.purged)

    by : (o : Option SiteState) → site_of from sites ≡ o → Meets sites (with_packet (packet_from to position o) sent)
    by None found = meets
    by (Some x) found = go x found (at_position position (stream_to to x)) refl

pub marks_meet : (sites : List SiteState) (sent : List Packet) (from to : SiteName) → Meets sites sent → Meets sites (with_packet (mark_from to (site_of from sites)) sent)
marks_meet sites sent from to meets = by (site_of from sites)
  where
    by : (o : Option SiteState) → Meets sites (with_packet (mark_from to o) sent)
    by None = meets
    by (Some x) = record { packets = (tt, meets.packets); each = meets.each }

-- ---- nobody is opened

pub still_closed : (schema : Schema) (xs ys : List SiteState) → AllAdd xs ys → AbsentAreClosed schema xs → AbsentAreClosed schema ys
still_closed schema xs ys adds closed site absent y found late none = go (site_of site xs) refl (site_of absent xs) refl
  where
    same : (o u : Option SiteState) → AddsIn o u → u ≡ None → o ≡ None
    same None u adds is = refl
    same (Some x) None adds is = absurd adds
    same (Some x) (Some y) adds is = absurd (cc is)

    there : (x : SiteState) → AddsIn (Some x) (Some y) → opened_of absent x ≡ None → opened_of absent y ≡ None
    there x adds is = adds.opened absent ∙ is

    own : AddsIn (site_of site xs) (Some y)
    own = subst (λ o. AddsIn (site_of site xs) o) found (adds site)

    go : (o : Option SiteState) → site_of site xs ≡ o → (u : Option SiteState) → site_of absent xs ≡ u → opened_of absent y ≡ None
    go None is u absent_is = absurd (subst (λ o. AddsIn o (Some y)) is own)
    go (Some x) is u absent_is = there x (subst (λ o. AddsIn o (Some y)) is own) (closed site absent x is late (same (site_of absent xs) (site_of absent ys) (adds absent) none))
