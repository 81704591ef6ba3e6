-- Noting a transaction's tokens of one destination after the other.
use Rattle.std.proofs.Common.{◌≡◌, ℕ, Bool, true, false, cond, List, [], ◌∷◌, ◌++◌, length, Option, Some, None, refl, sym, ap, subst, ◌∙◌, append_assoc}
use Rattle.std.proofs.lemmas.List.{append-nil}
use Rattle.std.specs.Prelude.{◌≢◌, filter_map, ◌&&◌, is_some}
use Rattle.std.specs.List.{AllByRecursion, cons_option}
use Rattle.rep_values.specs.declared.name.SiteName.{SiteName}
use Rattle.dependency_index.specs.declared.token.Token.{Token}
use Rattle.dependency_index.specs.Dependencies.{NotedStream, IsNoted, noted_count, room_for}
use Rattle.dependency_index.proofs.FoundStreams.{sites_of}
use Rattle.dependency_index.proofs.Destinations.{IsIndexed-same}
use Rattle.deferred_queue.specs.declared.destination.Destination.{Destination}
use Rattle.deferred_queue.specs.Streams.{Mark}
use Rattle.rep_values.specs.SiteNames.{is_same_site}
use Rattle.deferred_queue.proofs.Sites.{is_same_site-true, is_same_site-refl}
use Rattle.site_state.specs.State.{DestinationState, destination_of, opened_in}
use Rattle.site_state.specs.Streams.{with_one}
use Rattle.site_state.specs.Deferrals.{StandApart}
use Rattle.site_outbox.specs.declared.destination_entry.DestinationEntry.{DestinationEntry}
use Rattle.site_outbox.specs.DestinationEntries.{first_acked, later_marks, with_marks, EntriesApart}
use Rattle.site_outbox.specs.Noting.{TokenStreams, AreNoted, Waits, after_one, after_each, place_at, placed, places, Notes}

apart_from : (to site : SiteName) → is_same_site to site ≡ false → to ≢ site
apart_from to site off same =
    let is : is_same_site to site ≡ true = rw same (is_same_site-refl site) in
    absurd (cc (is, off))

-- another site's stream stays as it was
after_one-other : (o : DestinationEntry) (tokens : List Token) (streams : TokenStreams) (site : SiteName) → is_same_site o.site site ≡ false → after_one o tokens streams site ≡ streams site
after_one-other o tokens streams site off = rw off refl

-- noting an outlet that is open
pub noted_one : (old new : List NotedStream) (tokens : List Token) (streams : TokenStreams) (o : DestinationEntry) (opened : ℕ) → o.opened ≡ Some opened → IsNoted new o.site (tokens ∷ streams o.site)
    → ((site : SiteName) (stream : List (List Token)) → o.site ≢ site → IsNoted old site stream → IsNoted new site stream) → AreNoted old streams → AreNoted new (after_one o tokens streams)
noted_one old new tokens streams o opened open_is own others before site = go (is_same_site o.site site) refl
  where
    go : (b : Bool) → is_same_site o.site site ≡ b → IsNoted new site (with_one (b && is_some o.opened) tokens (streams site))
    go true is = rw open_is (subst (λ (s : SiteName). IsNoted new s (tokens ∷ streams s)) (is_same_site-true o.site site is) own)
    go false is = others site (streams site) (apart_from o.site site is) (before site)

-- so it can be noted as before
waits_on : (old new : List NotedStream) (size : ℕ) (tokens : List Token) (streams : TokenStreams) (o p : DestinationEntry) → is_same_site o.site p.site ≡ false → sites_of new ≡ sites_of old
    → ((site : SiteName) → o.site ≢ site → room_for new site ≡ room_for old site) → AreNoted old streams → AreNoted new (after_one o tokens streams) → Waits old size p → Waits new size p
waits_on old new size tokens streams o p off sites room before after waits = record {
  indexed = IsIndexed-same old new p.site (sym sites) waits.indexed;
  count = rw count waits.count;
  room = rw (room p.site (apart_from o.site p.site off)) waits.room;
}
  where
    count : noted_count new p.site ≡ noted_count old p.site
    count = (after p.site).count ∙ ap length (after_one-other o tokens streams p.site off) ∙ sym (before p.site).count

-- so it is with each outlet that is still to come
pub waits_each : (old new : List NotedStream) (size : ℕ) (tokens : List Token) (streams : TokenStreams) (o : DestinationEntry) (os : List DestinationEntry) → AllByRecursion (λ (p : DestinationEntry). is_same_site o.site p.site ≡ false) os → sites_of new ≡ sites_of old
    → ((site : SiteName) → o.site ≢ site → room_for new site ≡ room_for old site) → AreNoted old streams → AreNoted new (after_one o tokens streams) → AllByRecursion (Waits old size) os → AllByRecursion (Waits new size) os
waits_each old new size tokens streams o [] off sites room before after waits = tt
waits_each old new size tokens streams o (p ∷ ps) off sites room before after waits =
    (waits_on old new size tokens streams o p off.0 sites room before after waits.0, waits_each old new size tokens streams o ps off.1 sites room before after waits.1)

-- a site as a destination, where it is open
abbrev pub place_now : List Token → TokenStreams → DestinationState → Option Destination
place_now tokens streams d = place_at tokens streams d.site d.opened

-- of outlets apart each depends on what was there before
pub places-joined : (os : List DestinationEntry) (ms : List Mark) (tokens : List Token) (streams : TokenStreams) → EntriesApart os → places os tokens streams ≡ filter_map (place_now tokens streams) (with_marks os ms)
places-joined [] ms tokens streams apart = refl
places-joined (o ∷ os) ms tokens streams apart =
    ap (cons_option (placed tokens streams o)) (places-joined os (later_marks ms) tokens (after_one o tokens streams) apart.1 ∙ same_places os (later_marks ms) apart.0)
  where
    one : (p : DestinationEntry) → is_same_site o.site p.site ≡ false → (opened : Option ℕ) → place_at tokens (after_one o tokens streams) p.site opened ≡ place_at tokens streams p.site opened
    one p off None = refl
    one p off (Some opened) = rw off refl

    same_places : (ps : List DestinationEntry) (ms : List Mark) → AllByRecursion (λ (p : DestinationEntry). is_same_site o.site p.site ≡ false) ps
        → filter_map (place_now tokens (after_one o tokens streams)) (with_marks ps ms) ≡ filter_map (place_now tokens streams) (with_marks ps ms)
    same_places [] ms off = refl
    same_places (p ∷ ps) ms off = rw (one p off.0 p.opened, same_places ps (later_marks ms) off.1) refl

-- and each open one has one transaction more
pub after_each-joined : (os : List DestinationEntry) (ms : List Mark) (tokens : List Token) (streams : TokenStreams) (site : SiteName) → StandApart (with_marks os ms)
    → after_each os tokens streams site ≡ with_one (is_some (opened_in (destination_of site (with_marks os ms)))) tokens (streams site)
after_each-joined [] ms tokens streams site apart = refl
after_each-joined (o ∷ os) ms tokens streams site apart =
    after_each-joined os (later_marks ms) tokens (after_one o tokens streams) site apart.1 ∙ go (is_same_site o.site site) refl
  where
    go : (b : Bool) → is_same_site o.site site ≡ b
        → with_one (is_some (opened_in (destination_of site (with_marks os (later_marks ms))))) tokens (with_one (b && is_some o.opened) tokens (streams site))
        ≡ with_one (is_some (opened_in (cond b (Some (record { site = o.site; opened = o.opened; acked = first_acked ms })) (destination_of site (with_marks os (later_marks ms)))))) tokens (streams site)
    go true is =
        let none : destination_of site (with_marks os (later_marks ms)) ≡ None = rw (is_same_site-true o.site site is) at apart.0 in
        rw none refl
    go false is = refl

-- ---- one after the other

-- some outlets are noted, and those that are left make the whole
pub record NotedSoFar (all left : List DestinationEntry) (tokens : List Token) (streams : TokenStreams) (noted : List NotedStream) (to : List Destination) : Type 0 where
  pub now : TokenStreams
  pub are : AreNoted noted now
  pub after : after_each left tokens now ≡ after_each all tokens streams
  pub list : to ++ places left tokens now ≡ places all tokens streams

-- at first none
pub noted_none : (os : List DestinationEntry) (tokens : List Token) (streams : TokenStreams) (noted : List NotedStream) (to : List Destination) → to ≡ [] → AreNoted noted streams → NotedSoFar os os tokens streams noted to
noted_none os tokens streams noted to empty are = record { now = streams; are = are; after = refl; list = rw empty refl }

-- then one more
pub noted_next : (all os : List DestinationEntry) (o : DestinationEntry) (tokens : List Token) (streams : TokenStreams) (old new : List NotedStream) (to : List Destination) (place : Option Destination)
    → ((now : TokenStreams) → AreNoted old now → place ≡ placed tokens now o) → ((now : TokenStreams) → AreNoted old now → AreNoted new (after_one o tokens now))
    → NotedSoFar all (o ∷ os) tokens streams old to → NotedSoFar all os tokens streams new (to ++ cons_option place [])
noted_next all os o tokens streams old new to place is notes so_far = record {
  now = after_one o tokens so_far.now;
  are = notes so_far.now so_far.are;
  after = so_far.after;
  list = rw (is so_far.now so_far.are) (go (placed tokens so_far.now o)) ∙ so_far.list;
}
  where
    go : (place : Option Destination) → (to ++ cons_option place []) ++ places os tokens (after_one o tokens so_far.now) ≡ to ++ cons_option place (places os tokens (after_one o tokens so_far.now))
    go None = ap (λ xs. xs ++ places os tokens (after_one o tokens so_far.now)) (append-nil to)
    go (Some d) = append_assoc to (d ∷ []) (places os tokens (after_one o tokens so_far.now))

-- in the end all
pub noted_all : (os : List DestinationEntry) (tokens : List Token) (streams : TokenStreams) (noted : List NotedStream) (to : List Destination) → NotedSoFar os [] tokens streams noted to → Notes os tokens streams noted to
noted_all os tokens streams noted to so_far = record { list = sym (append-nil to) ∙ so_far.list; all = subst (AreNoted noted) so_far.after so_far.are }
