-- Where a position is tried: where it is applied, and where its error is executed again.
use Rattle.std.proofs.Common.{◌≡◌, ◌≢◌, ℕ, ◌+◌, ◌<◌, ◌≤◌, Bool, true, false, cond, List, [], ◌∷◌, length, Some, None, refl, sym, ap, ◌∙◌, subst, arith}
use Rattle.std.specs.Prelude.{Option, nat_le}
use Rattle.std.specs.List.{list_all}
use Rattle.std.proofs.lemmas.Bool.{and_parts, or_right}
use Rattle.std.proofs.lemmas.Bool.Decides.{nat_tests}
use Rattle.rep_values.specs.declared.name.SiteName.{SiteName}
use Rattle.rep_calls.specs.declared.past.PastEntry.{PastEntry}
use Rattle.rep_calls.specs.declared.call.Txn.{Txn}
use Rattle.deferred_queue.specs.Streams.{at_position}
use Rattle.deferred_queue.proofs.Positions.{found_position}
use Rattle.error_queue.specs.declared.entry.ErrorEntry.{ErrorEntry}
use Rattle.site_state.specs.declared.arrival.Arrival.{Arrival}
use Rattle.site_state.specs.declared.entry.Entry.{Entry}
use Rattle.site_state.specs.declared.entry.Entry.TheVariants.{Local, Done, Error, Executed, Dropped, Refreshed}
use Rattle.site_state.specs.State.{SiteState, sender_of, first_in, arrived_at, opened_of}
use Rattle.site_state.specs.Journal.{is_position, finished, low_water, error_at}
use Rattle.site_state.specs.Streams.{stream_to, shares}
use Rattle.site_state.specs.Pasts.{pasts_of}
use Rattle.site_state.specs.Ready.{is_covered}
use Rattle.site_state.specs.Packets.{count_opened}
use Rattle.site_state.proofs.LowWater.{low_water-below}
use Rattle.site_state.proofs.Growing.{dep_at-covers}
use Rattle.site_state.proofs.Stepping.{MayFollow, IsTaken, IsSent, arrived_has, is_position-true}
use Rattle.site_events.specs.Cluster.{Cluster, site_of}
use Rattle.site_events.specs.Events.{Event, run}
use Rattle.event_laws.specs.Orders.{FollowsIn, IsInOrder}
use Rattle.event_laws.proofs.RunInvariants.{SentBy, SiteHolds}
use Rattle.event_laws.proofs.MarkLaws.{arrived_was_sent}
use Rattle.event_laws.proofs.Meeting.{PastIs, SiteMeets}
use Rattle.event_laws.proofs.Waiting.{AreMet, run_met, arrival_holds}
use Rattle.convergence_laws.specs.Collections.{Among}
use Rattle.convergence_laws.proofs.Turns.{Turn, Becomes, Stays, Turns, Joins, happens_becomes}
use Rattle.convergence_laws.proofs.SitesAt.{Entered, Nothing, One, turn_enters, WasThere, was_there, WasJoined, was_joined}
use Rattle.convergence_laws.proofs.SitesAt as sites_at
use Rattle.convergence_laws.proofs.Applied.{error_finished}
use Rattle.error_cause_laws.proofs.FinishedPasts.{due_finished, held_at, meets_at, past_is_finished}
use Rattle.error_cause_laws.proofs.OneRow.{Setting, Sites, well}
use Rattle.error_cause_laws.proofs.LostInserts.{IsTried}

-- ---- an entry that a journal gets may follow

longer : {X : Type 0} (x : X) (xs : List X) → xs ≡ x ∷ xs → ⊥
longer x xs same = omega (arith, ap length same)

entered_follows : (x : SiteState) (e : Entry) (journal : List Entry) → Entered x journal → journal ≡ e ∷ x.journal → MayFollow x e
entered_follows x e _ Nothing same = absurd (longer e x.journal same)
entered_follows x e _ (One f follows) same = let one : f ≡ e = cc in subst (MayFollow x) one follows

module _ (e : Event) (w : Cluster) (name : SiteName) (x y : SiteState) (x_found : site_of name w.sites ≡ Some x) (entry : Entry) (is : y.journal ≡ entry ∷ x.journal) where
  becomes_follows : (ys : List SiteState) → Becomes w.sites ys → site_of name ys ≡ Some y → MayFollow x entry
  becomes_follows _ Stays found = let same : x ≡ y = cc (x_found, found) in absurd (longer entry x.journal (ap (λ (v : SiteState). v.journal) same ∙ is))
  becomes_follows _ (Turns at change turns) found =
      let was : WasThere name w.sites y = was_there at change turns w.sites name y found in
      let same : was.site ≡ x = cc (was.found, x_found) in
      entered_follows x entry y.journal (turn_enters x y (subst (λ (v : SiteState). Turn v y) same was.turn)) is
  becomes_follows _ (Joins site from source absent there may) found = go y is (was_joined w.sites source site name y found)
    where
      go : (v : SiteState) → v.journal ≡ entry ∷ x.journal → WasJoined w.sites source site name v → MayFollow x entry
      go _ is (sites_at.Old z at) = let same : z ≡ x = cc (at, x_found) in absurd (longer entry x.journal (ap (λ (v : SiteState). v.journal) (sym same) ∙ is))
      go _ is (sites_at.New named) = let none : site_of name w.sites ≡ None = ap (λ (n : SiteName). site_of n w.sites) named ∙ absent in absurd (cc (none, x_found))

  pub follows_now : site_of name (run (e ∷ []) w).sites ≡ Some y → MayFollow x entry
  follows_now found = becomes_follows _ (happens_becomes e w) found

-- ---- an error's earlier positions

module _ (sites : List SiteState) (to origin : SiteName) (position : ℕ) (o : SiteState) (there : site_of origin sites ≡ Some o) where
  abbrev FinishedBefore : ErrorEntry → List Entry → Type 0
  FinishedBefore e journal = (p : ℕ) (t : Txn) → p < position → at_position p (stream_to to o) ≡ Some t → shares o.schema e.txn t ≡ true → finished origin journal p ≡ true

  -- what it depends on was finished before
  pub error_earlier : (journal : List Entry) (e : ErrorEntry) → IsInOrder sites to journal → error_at origin position journal ≡ Some e → FinishedBefore e journal
  error_earlier [] e order found = cc
  error_earlier (Local number txn ∷ es) e order found = error_earlier es e order.1 found
  error_earlier (Done i p onward txn ∷ es) e order found = λ q t less at shared. rw (error_earlier es e order.1 found q t less at shared) (or_right (is_position origin q i p) true refl)
  error_earlier (Error i p call why txn ∷ es) e order found = go (is_position origin position i p) refl found (error_earlier es e order.1)
    where
      go : (b : Bool) → is_position origin position i p ≡ b → cond b (Some (record { origin = i; position = p; call = call; error = why; txn = txn })) (error_at origin position es) ≡ Some e
          → (error_at origin position es ≡ Some e → FinishedBefore e es) → FinishedBefore e (Error i p call why txn ∷ es)
      go true is found later = λ q t less at shared. rw (now q t less at shared) (or_right (is_position origin q i p) true refl)
        where
          place : (i ≡ origin) × (p ≡ position)
          place = is_position-true origin i position p is

          same : record { origin = i; position = p; call = call; error = why; txn = txn } ≡ e
          same = cc

          follows : FollowsIn (Some o) to origin position txn es
          follows = subst (λ (v : Option SiteState). FollowsIn v to origin position txn es) there (rw (← place.0, ← place.1) order.0)

          now : (q : ℕ) (t : Txn) → q < position → at_position q (stream_to to o) ≡ Some t → shares o.schema e.txn t ≡ true → finished origin es q ≡ true
          now q t less at shared = follows.earlier q t less at (subst (λ (u : Txn). shares o.schema u t ≡ true) (sym (ap (λ (f : ErrorEntry). f.txn) same)) shared)
      go false is found later = λ q t less at shared. rw (later found q t less at shared) (or_right (is_position origin q i p) true refl)
  error_earlier (Executed i p onward txn ∷ es) e order found = go (is_position origin position i p) found (error_earlier es e order.1)
    where
      go : (b : Bool) → cond b None (error_at origin position es) ≡ Some e → (error_at origin position es ≡ Some e → FinishedBefore e es) → FinishedBefore e es
      go true found later = cc
      go false found later = later found
  error_earlier (Dropped i p ∷ es) e order found = go (is_position origin position i p) found (error_earlier es e order.1)
    where
      go : (b : Bool) → cond b None (error_at origin position es) ≡ Some e → (error_at origin position es ≡ Some e → FinishedBefore e es) → FinishedBefore e es
      go true found later = cc
      go false found later = later found
  error_earlier (Refreshed moment ∷ es) e order found = error_earlier es e order.1 found

-- ---- a position is tried

module _ (g : Setting) (events : List Event) (site : SiteName) (x o : SiteState) (position : ℕ) (txn : Txn) (found : site_of site (Sites g events) ≡ Some x) (on : x.here.is_master ≡ true)
    (there : site_of o.here.site (Sites g events) ≡ Some o) where
  abbrev sites : List SiteState
  sites = Sites g events

  met : AreMet g.schema sites (run events g.start).sent
  met = run_met g.schema g.start events g.fit.start g.meshed

  held : SiteHolds sites site x
  held = held_at g.schema sites (run events g.start).sent met site x found

  meets : SiteMeets sites site x
  meets = meets_at g.schema sites (run events g.start).sent met site x found

  of_schema : o.schema ≡ g.schema
  of_schema = (well g events o.here.site o there).of_schema

  module _ (a : Arrival) (arrived : arrived_at o.here.site position x.senders ≡ Some a) where
    was_sent : IsSent o site a.number a.position a.dep a.txn
    was_sent = subst (λ (v : Option SiteState). SentBy v site a.number a.position a.dep a.txn) there (arrived_was_sent sites site o.here.site x.senders position a held.senders arrived)

    place : a.position ≡ position
    place = arrived_has o.here.site position x a arrived

    -- what its sender had seen before it is the past that came with it
    past_is : (past : List PastEntry) → at_position (count_opened (opened_of site o) + position) (pasts_of o) ≡ Some past → past ≡ a.past
    past_is past at =
        let has : at_position a.number (pasts_of o) ≡ Some a.past =
        subst (λ (v : Option SiteState). PastIs v a.number a.past) there (arrival_holds (λ n b. PastIs (site_of n sites) b.number b.past) o.here.site position x.senders a meets.pasts arrived) in
        let count : count_opened (opened_of site o) ≡ was_sent.count = ap count_opened was_sent.opened in
        let number : a.number ≡ count_opened (opened_of site o) + position = omega (arith, was_sent.number_is, place, count) in
        let here : at_position (count_opened (opened_of site o) + position) (pasts_of o) ≡ Some a.past = subst (λ (n : ℕ). at_position n (pasts_of o) ≡ Some a.past) number has in
        cc (here, at)

  -- as it is applied
  pub taken_tried : IsTaken x o.here.site position txn → IsTried g events site x o position txn
  taken_tried taken = record {
    found = found;
    on = on;
    there = there;
    sent = rw (← place taken.arrival taken.there, ← taken.carries) (was_sent taken.arrival taken.there).there;
    earlier = λ p t less at shared. earlier p t less at shared (was_sent taken.arrival taken.there);
    seen = λ past at s among apart q some up_to.
        due_finished sites site x held meets o.here.site taken.arrival taken.due s (subst (Among s) (past_is taken.arrival taken.there past at) among) apart q some up_to;
  }
    where
      low : taken.arrival.dep ≤ low_water o.here.site x.journal
      low =
          let within : nat_le taken.arrival.dep (low_water o.here.site x.journal) ≡ true =
          (and_parts (nat_le taken.arrival.dep (low_water o.here.site x.journal)) (list_all (is_covered x) taken.arrival.past) taken.due).0 in
          grind (arith, nat_tests)

      earlier : (p : ℕ) (t : Txn) → p < position → at_position p (stream_to site o) ≡ Some t → shares g.schema txn t ≡ true → IsSent o site taken.arrival.number taken.arrival.position taken.arrival.dep taken.arrival.txn
          → finished o.here.site x.journal p ≡ true
      earlier p t less at shared sent =
          let shared_here : shares o.schema taken.arrival.txn t ≡ true = rw (of_schema, taken.carries) shared in
          let at_place : taken.arrival.position ≡ position = place taken.arrival taken.there in
          let covers = dep_at-covers o.schema (stream_to site o) p taken.arrival.position t taken.arrival.txn at sent.there (omega (arith, less, at_place)) shared_here in
          low_water-below o.here.site x.journal p (omega (arith, (found_position p (stream_to site o) t at).0)) (omega (arith, covers, sent.dep_is, low))

  -- as its error is executed again
  pub error_tried : IsInOrder sites site x.journal → (e : ErrorEntry) → error_at o.here.site position x.journal ≡ Some e → e.txn ≡ txn → at_position position (stream_to site o) ≡ Some txn → IsTried g events site x o position txn
  error_tried order e stands is sent = record {
    found = found;
    on = on;
    there = there;
    sent = sent;
    earlier = λ p t less at shared. error_earlier sites site o.here.site position o there x.journal e order stands p t less at (rw (of_schema, is) shared);
    seen = λ past at s among apart q some up_to. seen past at s among apart q some up_to (arrived_at o.here.site position x.senders) refl;
  }
    where
      done : finished o.here.site x.journal position ≡ true
      done = error_finished o.here.site position x.journal (λ none. absurd (cc (none, stands)))

      seen : (past : List PastEntry) → at_position (count_opened (opened_of site o) + position) (pasts_of o) ≡ Some past → (s : PastEntry) → Among s past → s.origin ≢ x.here.site
          → (q : ℕ) → 0 < q → q + first_in (sender_of s.origin x.senders) ≤ s.number → (a : Option Arrival) → arrived_at o.here.site position x.senders ≡ a → finished s.origin x.journal q ≡ true
      seen past at s among apart q some up_to None none = absurd (meets.arrived o.here.site position done none)
      seen past at s among apart q some up_to (Some a) arrived =
          past_is_finished g.schema g.start g.fit.start g.meshed events site x found o.here.site position a done arrived s (subst (Among s) (past_is a arrived past at) among) apart q some up_to
