-- Streams meet where a master joins: each master opens its stream to it behind what it had queued, and it is open to each
-- that is there from its first transaction on.
use Rattle.std.proofs.Common.{◌≡◌, ◌≢◌, ℕ, List, [], ◌∷◌, map, filter, Bool, true, false, cond, Some, None, refl, sym, ap, ◌∙◌, arith, subst, inl, inr}
use Rattle.std.specs.Prelude.{◌||◌, ◌⊎◌, Option, option_map}
use Rattle.std.specs.List.{AllByRecursion}
use Rattle.rep_values.specs.declared.name.SiteName.{SiteName}
use Rattle.rep_schema.specs.declared.schema.Schema.{Schema}
use Rattle.rep_schema.specs.Shape.{HasShape}
use Rattle.rep_schema.specs.Sites.{senders_of, destinations_of, is_among, is_master_site, is_late_master}
use Rattle.rep_calls.specs.declared.past.PastEntry.{PastEntry}
use Rattle.rep_values.specs.SiteNames.{is_same_site}
use Rattle.deferred_queue.proofs.Sites.{is_same_site-true, is_same_site-refl}
use Rattle.packet_code.specs.declared.packet.Packet.{Packet}
use Rattle.site_state.specs.declared.entry.Entry.{Entry}
use Rattle.site_state.specs.declared.arrival.Arrival.{Arrival}
use Rattle.site_state.specs.State.{SenderState, DestinationState, SiteState, destination_of, opened_in, opened_of}
use Rattle.site_state.specs.Streams.{count_of}
use Rattle.site_state.specs.Journal.{finished}
use Rattle.site_state.specs.Making.{new_destination, master_here}
use Rattle.site_state.specs.Joining.{opened_from, site_open, number_for, sender_from, site_copy}
use Rattle.site_state.proofs.Destinations.{opened_in-opened, opened_from_stays, opened_in-other, opened_in-own}
use Rattle.site_events.specs.Cluster.{site_of}
use Rattle.site_events.specs.Joins.{count_at, queue_counts, open_to_each, copied, with_joined, may_join}
use Rattle.event_laws.specs.Waiting.{IsFirstNumber, AbsentAreClosed}
use Rattle.event_laws.proofs.Sites.{found_or, site_of-joined, found_name, found_all}
use Rattle.event_laws.proofs.NewSites.{open_to_each_keeps, copied_is_new, copied_here}
use Rattle.site_state.proofs.SchemaSites.{sender_has_destination, own_is_no_sender, late_has_masters}
use Rattle.site_state.proofs.DeclaredSites.{origins, sites_in, open_names}
use Rattle.event_laws.proofs.DeclaredSites.{IsSiteOf, joins_late}
use Rattle.event_laws.proofs.Meeting.{PastIs, EachArrival, HasPast, SiteMeets, MeetsAt, Meets, packets_past, each_map}

-- ---- destinations of one that joins

among_destination : (name : SiteName) (ds : List DestinationState) → is_among (sites_in ds) name ≡ true → (d : DestinationState) × (destination_of name ds ≡ Some d)
among_destination name [] among = absurd (cc among)
among_destination name (d ∷ ds) among = go (is_same_site d.site name) among (among_destination name ds)
  where
    go : (b : Bool) → (b || is_among (sites_in ds) name) ≡ true → (is_among (sites_in ds) name ≡ true → (d : DestinationState) × (destination_of name ds ≡ Some d))
        → (e : DestinationState) × (cond b (Some d) (destination_of name ds) ≡ Some e)
    go true among later = (d, refl)
    go false among later = later among

opened_new : (schema : Schema) (names : List SiteName) (name : SiteName)
    → (opened_in (destination_of name (map (new_destination schema) names)) ≡ None) ⊎ (opened_in (destination_of name (map (new_destination schema) names)) ≡ Some 0)
opened_new schema [] name = inl refl
opened_new schema (n ∷ ns) name = go (is_same_site n name) (opened_new schema ns name)
  where
    Is : Option DestinationState → Type 0
    Is o = (opened_in o ≡ None) ⊎ (opened_in o ≡ Some 0)

    own : (late : Bool) → Is (Some (record { site = n; opened = cond late None (Some 0); acked = 0 }))
    own true = inl refl
    own false = inr refl

    go : (b : Bool) → Is (destination_of name (map (new_destination schema) ns)) → Is (cond b (Some (new_destination schema n)) (destination_of name (map (new_destination schema) ns)))
    go true later = own (is_late_master schema n)
    go false later = later

late_new : (schema : Schema) (names : List SiteName) (name : SiteName) → is_late_master schema name ≡ true → opened_in (destination_of name (map (new_destination schema) names)) ≡ None
late_new schema [] name late = refl
late_new schema (n ∷ ns) name late = go (is_same_site n name) refl (late_new schema ns name late)
  where
    go : (b : Bool) → is_same_site n name ≡ b → opened_in (destination_of name (map (new_destination schema) ns)) ≡ None → opened_in (cond b (Some (new_destination schema n)) (destination_of name (map (new_destination schema) ns))) ≡ None
    go true is later = let own : is_late_master schema n ≡ true = rw (is_same_site-true n name is) late in rw own refl
    go false is later = later

-- what is open stays so
open_each_stays : (others : List SiteState) (x : SiteState) (name : SiteName) (count : ℕ) → opened_of name x ≡ Some count → opened_of name (open_to_each others x) ≡ Some count
open_each_stays others x name count is =
    open_to_each_keeps (λ y. opened_of name y ≡ Some count) (λ site y is_open. opened_from_stays (count_of y) (opened_of name y) (opened_of name (site_open site y)) count (opened_in-opened name site (count_of y) y.destinations) is_open) others x is

-- none of these sites has the name
none_named : (name : SiteName) (sites : List SiteState) → site_of name sites ≡ None → AllByRecursion (λ (o : SiteState). is_same_site o.here.site name ≡ false) sites
none_named name [] none = tt
none_named name (x ∷ xs) none = go (is_same_site x.here.site name) refl none (none_named name xs)
  where
    go : (b : Bool) → is_same_site x.here.site name ≡ b → cond b (Some x) (site_of name xs) ≡ None → (site_of name xs ≡ None → AllByRecursion (λ (o : SiteState). is_same_site o.here.site name ≡ false) xs)
        → AllByRecursion (λ (o : SiteState). is_same_site o.here.site name ≡ false) (x ∷ xs)
    go true is none later = absurd (cc none)
    go false is none later = (is, later none)

open_each_closed : (others : List SiteState) (x : SiteState) (name : SiteName) → AllByRecursion (λ (o : SiteState). is_same_site o.here.site name ≡ false) others → opened_of name x ≡ None → opened_of name (open_to_each others x) ≡ None
open_each_closed [] x name off is = is
open_each_closed (o ∷ os) x name off is = open_each_closed os (site_open o.here.site x) name off.1 (opened_in-other name o.here.site (count_of x) x.destinations off.0 ∙ is)

-- a site that has queued nothing yet is open from its first transaction on to each of these that is a destination
open_each_opens : (others : List SiteState) (x : SiteState) (name : SiteName) → count_of x ≡ 0 → is_among (sites_in x.destinations) name ≡ true → (opened_of name x ≡ None) ⊎ (opened_of name x ≡ Some 0)
    → site_of name others ≢ None → opened_of name (open_to_each others x) ≡ Some 0
open_each_opens [] x name count among is there = absurd (there refl)
open_each_opens (o ∷ os) x name count among is there = go (is_same_site o.here.site name) refl there (open_each_opens os (site_open o.here.site x) name count (rw (open_names o.here.site x).destinations among))
  where
    own : o.here.site ≡ name → opened_of name (site_open o.here.site x) ≡ Some 0
    own same =
        let d = among_destination name x.destinations among in
        subst (λ (s : SiteName). opened_of name (site_open s x) ≡ Some 0) (sym same) (opened_in-own name (count_of x) x.destinations d.0 d.1 ∙ by d.0.opened (ap opened_in d.1))
      where
        by : (before : Option ℕ) → opened_of name x ≡ before → opened_from before (count_of x) ≡ Some 0
        by None same = ap Some count
        by (Some n) same = elim is [
          | inl none ↦ absurd (cc (none, same))
          | inr zero ↦ sym same ∙ zero
        ]

    go : (b : Bool) → is_same_site o.here.site name ≡ b → cond b (Some o) (site_of name os) ≢ None
        → ((opened_of name (site_open o.here.site x) ≡ None) ⊎ (opened_of name (site_open o.here.site x) ≡ Some 0) → site_of name os ≢ None → opened_of name (open_to_each os (site_open o.here.site x)) ≡ Some 0)
        → opened_of name (open_to_each os (site_open o.here.site x)) ≡ Some 0
    go true same there later = open_each_stays os (site_open o.here.site x) name 0 (own (is_same_site-true o.here.site name same))
    go false other there later =
        let as_before : opened_of name (site_open o.here.site x) ≡ opened_of name x = opened_in-other name o.here.site (count_of x) x.destinations other in
        later (rw as_before is) there

-- ---- first numbers

number_there : (name : SiteName) (sites : List SiteState) (o : SiteState) → site_of name sites ≡ Some o → o.here.is_master ≡ true → number_for name (queue_counts sites) ≡ count_of o
number_there name [] o found is = absurd (cc found)
number_there name (x ∷ xs) o found is = go (is_same_site x.here.site name) refl x.here.is_master refl found (number_there name xs o)
  where
    go : (b : Bool) → is_same_site x.here.site name ≡ b → (m : Bool) → x.here.is_master ≡ m → cond b (Some x) (site_of name xs) ≡ Some o
        → (site_of name xs ≡ Some o → o.here.is_master ≡ true → number_for name (queue_counts xs) ≡ count_of o)
        → number_for name (map count_at (cond m (x ∷ filter (λ (x : SiteState). x.here.is_master) xs) (filter (λ (x : SiteState). x.here.is_master) xs))) ≡ count_of o
    go true own true master found later = let same : x ≡ o = cc found in rw (own, same) refl
    go true own false master found later = let same : x ≡ o = cc found in absurd (cc (same, master, is))
    go false other true master found later = rw other (later found is)
    go false other false master found later = later found is

number_absent : (name : SiteName) (sites : List SiteState) → site_of name sites ≡ None → number_for name (queue_counts sites) ≡ 0
number_absent name [] none = refl
number_absent name (x ∷ xs) none = go (is_same_site x.here.site name) refl x.here.is_master none (number_absent name xs)
  where
    go : (b : Bool) → is_same_site x.here.site name ≡ b → (m : Bool) → cond b (Some x) (site_of name xs) ≡ None → (site_of name xs ≡ None → number_for name (queue_counts xs) ≡ 0)
        → number_for name (map count_at (cond m (x ∷ filter (λ (x : SiteState). x.here.is_master) xs) (filter (λ (x : SiteState). x.here.is_master) xs))) ≡ 0
    go true own m none later = absurd (cc none)
    go false other true none later = rw other (later none)
    go false other false none later = later none

-- ---- names among others

among_more : (name n : SiteName) (ns : List SiteName) → is_among ns name ≡ true → is_among (n ∷ ns) name ≡ true
among_more name n ns among = go (is_same_site n name)
  where
    go : (b : Bool) → (b || is_among ns name) ≡ true
    go true = refl
    go false = among

all_more : (n : SiteName) (all names : List SiteName) → AllByRecursion (λ (m : SiteName). is_among all m ≡ true) names → AllByRecursion (λ (m : SiteName). is_among (n ∷ all) m ≡ true) names
all_more n all [] among = tt
all_more n all (m ∷ ms) among = (among_more m n all among.0, all_more n all ms among.1)

all_among : (names : List SiteName) → AllByRecursion (λ (m : SiteName). is_among names m ≡ true) names
all_among [] = tt
all_among (n ∷ ns) = (rw (is_same_site-refl n) refl, all_more n ns ns (all_among ns))

each_sender : (names : List SiteName) (ss : List SenderState) → AllByRecursion (λ (m : SiteName). is_among names m ≡ true) (origins ss) → AllByRecursion (λ (s : SenderState). is_among names s.origin ≡ true) ss
each_sender names [] all = tt
each_sender names (s ∷ ss) all = (all.0, each_sender names ss all.1)

-- nothing is finished in an empty journal
nothing_finished : (origin : SiteName) (p : ℕ) (es : List Entry) → es ≡ [] → finished origin es p ≡ true → ⊥
nothing_finished origin p [] none is = absurd (cc is)
nothing_finished origin p (e ∷ es) none is = absurd (cc none)

-- ---- the join

module _ (schema : Schema) (shape : HasShape schema) (sites : List SiteState) (source : SiteState) (site from : SiteName) (absent : site_of site sites ≡ None) (found_source : site_of from sites ≡ Some source)
    (may : may_join sites source site ≡ true) (all_of : AllByRecursion (IsSiteOf schema) sites) (closed : AbsentAreClosed schema sites) where
  abbrev new : SiteState
  new = copied sites source site

  abbrev ys : List SiteState
  ys = with_joined sites source site

  found : (name : SiteName) → site_of name ys ≡ found_or (site_of name (new ∷ [])) (option_map (site_open site) (site_of name sites))
  found name = site_of-joined name (site_open site) sites new (λ x. refl)

  of_source : source.schema ≡ schema
  of_source = (found_all (IsSiteOf schema) from sites source all_of found_source).of_schema

  late : is_late_master schema site ≡ true
  late = subst (λ s. is_late_master s site ≡ true) of_source (joins_late sites source site may)

  name_is : new.here.site ≡ site
  name_is = ap (λ h. h.site) (copied_here sites source site)

  abbrev base_new : SiteState
  base_new = site_copy source (master_here source.schema site) (queue_counts sites)

  -- ---- to whom it is open

  opened_to : (name : SiteName) → is_among (destinations_of schema site) name ≡ true → site_of name sites ≢ None → opened_of name new ≡ Some 0
  opened_to name among there = open_each_opens sites base_new name refl
      (subst (λ s. is_among s name ≡ true) (sym (destinations_new (destinations_of source.schema site))) (subst (λ s. is_among (destinations_of s site) name ≡ true) (sym of_source) among))
      (opened_new source.schema (destinations_of source.schema site) name) there
    where
      destinations_new : (names : List SiteName) → sites_in (map (new_destination source.schema) names) ≡ names
      destinations_new [] = refl
      destinations_new (n ∷ ns) = ap (λ rest. n ∷ rest) (destinations_new ns)

  closed_to : (name : SiteName) → is_late_master schema name ≡ true → site_of name sites ≡ None → opened_of name new ≡ None
  closed_to name late_name none = open_each_closed sites base_new name (none_named name sites none)
      (late_new source.schema (destinations_of source.schema site) name (subst (λ s. is_late_master s name ≡ true) (sym of_source) late_name))

  -- ---- who is open to it

  open_to_it : (origin : SiteName) (o : SiteState) → is_among (senders_of schema site) origin ≡ true → site_of origin sites ≡ Some o → opened_of site (site_open site o) ≡ Some (count_of o)
  open_to_it origin o among there = opened_in-own site (count_of o) o.destinations d.0 d.1 ∙ ap (λ before. opened_from before (count_of o)) (sym (ap opened_in d.1) ∙ closed origin site o there late absent)
    where
      is : IsSiteOf schema o
      is = found_all (IsSiteOf schema) origin sites o all_of there

      d : (d : DestinationState) × (destination_of site o.destinations ≡ Some d)
      d = among_destination site o.destinations
          (rw (is.declared.destinations, found_name origin sites o there) (sender_has_destination schema shape site origin among))

  first_of_it : (origin : SiteName) → is_among (senders_of schema site) origin ≡ true → IsFirstNumber (site_of origin ys) site (number_for origin (queue_counts sites))
  first_of_it origin among = rw (found origin) (go (site_of origin sites) refl)
    where
      masters : (o : SiteState) → site_of origin sites ≡ Some o → o.here.is_master ≡ true
      masters o there = (found_all (IsSiteOf schema) origin sites o all_of there).declared.is_master
          ∙ ap (is_master_site schema) (found_name origin sites o there) ∙ late_has_masters schema shape site origin late among

      others : (b : Bool) → is_same_site new.here.site origin ≡ b → site_of origin sites ≡ None → IsFirstNumber (cond b (Some new) None) site (number_for origin (queue_counts sites))
      others true same none =
          let own : origin ≡ site = sym (is_same_site-true new.here.site origin same) ∙ name_is in
          let among_own : is_among (senders_of schema site) site ≡ true = subst (λ (n : SiteName). is_among (senders_of schema site) n ≡ true) own among in
          absurd (cc (among_own, own_is_no_sender schema shape site))
      others false same none = number_absent origin sites none

      go : (o : Option SiteState) → site_of origin sites ≡ o → IsFirstNumber (found_or (site_of origin (new ∷ [])) (option_map (site_open site) o)) site (number_for origin (queue_counts sites))
      go None none = others (is_same_site new.here.site origin) refl none
      go (Some o) there = rw (number_there origin sites o there (masters o there)) (open_to_it origin o among there, omega arith)

  firsts_of_it : (names : List SiteName) → AllByRecursion (λ (n : SiteName). is_among (senders_of schema site) n ≡ true) names
      → AllByRecursion (λ (s : SenderState). IsFirstNumber (site_of s.origin ys) site s.first) (map (sender_from (queue_counts sites)) names)
  firsts_of_it [] among = tt
  firsts_of_it (n ∷ ns) among = (first_of_it n among.0, firsts_of_it ns among.1)

  senders_of_it : new.senders ≡ map (sender_from (queue_counts sites)) (senders_of schema site)
  senders_of_it = open_to_each_keeps (λ y. y.senders ≡ base_new.senders) (λ s y is. is) sites base_new refl ∙ ap (λ s. map (sender_from (queue_counts sites)) (senders_of s site)) of_source

  nothing_arrived : (P : SenderState → Arrival → Type 0) (ss : List SenderState) → AllByRecursion (λ (s : SenderState). s.arrived ≡ []) ss → EachArrival P ss
  nothing_arrived P [] none = tt
  nothing_arrived P (s ∷ ss) none = (rw none.0 tt, nothing_arrived P ss none.1)

  it_meets : SiteMeets ys site new
  it_meets = record {
    arrived = λ origin p done. absurd (nothing_finished origin p new.journal (copied_is_new sites source site).journal done);
    known = nothing_arrived _ new.senders (copied_is_new sites source site).arrived;
    pasts = nothing_arrived _ new.senders (copied_is_new sites source site).arrived;
    firsts = rw senders_of_it (firsts_of_it (senders_of schema site) (all_among (senders_of schema site)));
  }

  -- ---- the others

  past_later : (origin : SiteName) (number : ℕ) (past : List PastEntry) → PastIs (site_of origin sites) number past → PastIs (site_of origin ys) number past
  past_later origin number past is = rw (found origin) (go (site_of origin sites) is)
    where
      go : (o : Option SiteState) → PastIs o number past → PastIs (found_or (site_of origin (new ∷ [])) (option_map (site_open site) o)) number past
      go None is = absurd is
      go (Some o) is = is

  first_later : (name origin : SiteName) (first : ℕ) → site_of name sites ≢ None → is_among (senders_of schema name) origin ≡ true → IsFirstNumber (site_of origin sites) name first → IsFirstNumber (site_of origin ys) name first
  first_later name origin first there among is = rw (found origin) (go (site_of origin sites) is)
    where
      joined : (b : Bool) → is_same_site new.here.site origin ≡ b → first ≡ 0 → IsFirstNumber (cond b (Some new) None) name first
      joined true same zero =
          let own : origin ≡ site = sym (is_same_site-true new.here.site origin same) ∙ name_is in
          let to : is_among (destinations_of schema site) name ≡ true =
          sender_has_destination schema shape name site (subst (λ (n : SiteName). is_among (senders_of schema name) n ≡ true) own among) in
          rw zero (opened_to name to there, omega arith)
      joined false same zero = zero

      go : (o : Option SiteState) → IsFirstNumber o name first → IsFirstNumber (found_or (site_of origin (new ∷ [])) (option_map (site_open site) o)) name first
      go None zero = joined (is_same_site new.here.site origin) refl zero
      go (Some o) is = (opened_from_stays (count_of o) (opened_of name o) (opened_of name (site_open site o)) first (opened_in-opened name site (count_of o) o.destinations) is.0, is.1)

  firsts_later : (name : SiteName) (ss : List SenderState) → site_of name sites ≢ None → AllByRecursion (λ (s : SenderState). is_among (senders_of schema name) s.origin ≡ true) ss
      → AllByRecursion (λ (s : SenderState). IsFirstNumber (site_of s.origin sites) name s.first) ss → AllByRecursion (λ (s : SenderState). IsFirstNumber (site_of s.origin ys) name s.first) ss
  firsts_later name [] there among all = tt
  firsts_later name (s ∷ ss) there among all = (first_later name s.origin s.first there among.0 all.0, firsts_later name ss there among.1 all.1)

  other_meets : (name : SiteName) (x : SiteState) → site_of name sites ≡ Some x → SiteMeets sites name x → SiteMeets ys name (site_open site x)
  other_meets name x there meets = record {
    arrived = meets.arrived;
    known = meets.known;
    pasts = each_map (HasPast sites) (HasPast ys) (λ s a is. past_later s.origin a.number a.past is) x.senders meets.pasts;
    firsts = firsts_later name x.senders (λ none. absurd (cc (none, there))) (each_sender (senders_of schema name) x.senders among) meets.firsts;
  }
    where
      is : IsSiteOf schema x
      is = found_all (IsSiteOf schema) name sites x all_of there

      among : AllByRecursion (λ (m : SiteName). is_among (senders_of schema name) m ≡ true) (origins x.senders)
      among = rw (is.declared.senders, found_name name sites x there) (all_among (senders_of schema name))

  meets_at : (name : SiteName) → MeetsAt sites name (site_of name sites) → MeetsAt ys name (site_of name ys)
  meets_at name meets = rw (found name) (go (site_of name sites) refl meets)
    where
      joined : (b : Bool) → is_same_site new.here.site name ≡ b → MeetsAt ys name (cond b (Some new) None)
      joined true same = subst (λ (n : SiteName). SiteMeets ys n new) (sym name_is ∙ is_same_site-true new.here.site name same) it_meets
      joined false same = tt

      go : (o : Option SiteState) → site_of name sites ≡ o → MeetsAt sites name o → MeetsAt ys name (found_or (site_of name (new ∷ [])) (option_map (site_open site) o))
      go None there meets = joined (is_same_site new.here.site name) refl
      go (Some x) there meets = other_meets name x there meets

  -- where a master joins, streams meet again
  pub joined_meets : (sent : List Packet) → Meets sites sent → Meets ys sent
  joined_meets sent meets = record { packets = packets_past sites ys sent past_later meets.packets; each = λ name. meets_at name (meets.each name) }

  -- and nobody is open to those that are still absent
  pub joined_closed : AbsentAreClosed schema ys
  joined_closed name other y there late_other none = go (site_of name sites) refl (subst (λ o. o ≡ Some y) (found name) there)
    where
      still_absent : (o : Option SiteState) → found_or (site_of other (new ∷ [])) (option_map (site_open site) o) ≡ None → o ≡ None
      still_absent None is = refl
      still_absent (Some o) is = absurd (cc is)

      absent_before : site_of other sites ≡ None
      absent_before = still_absent (site_of other sites) (sym (found other) ∙ none)

      it_is_there : (b : Bool) → is_same_site site other ≡ b → b ≡ false
      it_is_there false same = refl
      it_is_there true same =
          let names : is_same_site new.here.site other ≡ true = subst (λ (n : SiteName). is_same_site n other ≡ true) (sym name_is) same in
          let is_none : found_or (site_of other (new ∷ [])) (option_map (site_open site) (site_of other sites)) ≡ None = sym (found other) ∙ none in
          absurd (some (rw (absent_before, names) at is_none))
        where
          some : Some new ≡ None → ⊥
          some is = cc is

      joined : (b : Bool) → cond b (Some new) None ≡ Some y → opened_of other y ≡ None
      joined true is = let same : new ≡ y = cc is in subst (λ z. opened_of other z ≡ None) same (closed_to other late_other absent_before)
      joined false is = absurd (cc is)

      go : (o : Option SiteState) → site_of name sites ≡ o → found_or (site_of name (new ∷ [])) (option_map (site_open site) o) ≡ Some y → opened_of other y ≡ None
      go None was is = joined (is_same_site new.here.site name) is
      go (Some o) was is =
          let same : site_open site o ≡ y = cc is in
          subst (λ z. opened_of other z ≡ None) same
          (opened_in-other other site (count_of o) o.destinations (it_is_there (is_same_site site other) refl) ∙ closed name other o was late_other absent_before)
