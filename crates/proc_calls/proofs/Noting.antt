-- Noting a transaction's tokens of one site after the other.
use Rattle.std.proofs.Common.{◌≡◌, ◌≢◌, ℕ, ◌+◌, ◌++◌, Bool, true, false, List, [], ◌∷◌, map, take, Some, refl, sym, ap, subst, ◌∙◌}
use Rattle.std.specs.Prelude.{◌||◌, slice_get}
use Rattle.std.specs.List.{AllByRecursion}
use Rattle.std.proofs.lemmas.List.{map-append}
use Rattle.std.proofs.lemmas.List.Folds.{list_any-append}
use Rattle.rep_values.specs.declared.name.SiteName.{SiteName}
use Rattle.dependency_index.specs.declared.token.Token.{Token}
use Rattle.dependency_index.specs.Dependencies.{NotedStream, IsNoted, noted_count, room_for, dependency_number}
use Rattle.dependency_index.proofs.FoundStreams.{sites_of}
use Rattle.dependency_index.proofs.Destinations.{IsIndexed-same}
use Rattle.deferred_queue.specs.declared.destination.Destination.{Destination}
use Rattle.rep_values.specs.SiteNames.{is_same_site}
use Rattle.deferred_queue.proofs.Sites.{is_same_site-true}
use Rattle.rep_schema.specs.Sites.{is_among}
use Rattle.site_outbox.specs.Noting.{TokenStreams, AreNoted}
use Rattle.rep_schema.proofs.FoundRows.{take_found}
use Rattle.proc_calls.specs.Outgoing.{NamesApart, CanBeNoted, with_tokens, placed}
use Rattle.proc_calls.proofs.Apart.{apart_from, not_before, others_of}

or_false : (b : Bool) → (b || false) ≡ b
or_false true = refl
or_false false = refl

or_true : (b : Bool) → (b || true) ≡ true
or_true true = refl
or_true false = refl

module _ (sites : List SiteName) (tokens : List Token) (streams : TokenStreams) (i : ℕ) (s : SiteName) (there : slice_get sites i ≡ Some s) where
  -- the sites up to the next place are those before it, and this one
  among_next : (site : SiteName) → is_among (take (i + 1) sites) site ≡ (is_among (take i sites) site || is_same_site s site)
  among_next site =
      rw (take_found sites i s there)
      (list_any-append (λ (n : SiteName). is_same_site n site) (take i sites) (s ∷ []) ∙ ap (λ (b : Bool). is_among (take i sites) site || b) (or_false (is_same_site s site)))

  -- its stream is as it was before
  own_stream : NamesApart sites → with_tokens (take i sites) tokens streams s ≡ streams s
  own_stream apart = rw (not_before sites i s apart there) refl

  -- one more is noted
  pub noted_next : NamesApart sites → (old new : List NotedStream) → AreNoted old (with_tokens (take i sites) tokens streams)
      → ((stream : List (List Token)) → IsNoted old s stream → IsNoted new s (tokens ∷ stream))
      → ((site : SiteName) (stream : List (List Token)) → s ≢ site → IsNoted old site stream → IsNoted new site stream)
      → AreNoted new (with_tokens (take (i + 1) sites) tokens streams)
  noted_next apart old new before own others site = go (is_same_site s site) refl
    where
      go : (b : Bool) → is_same_site s site ≡ b → IsNoted new site (with_tokens (take (i + 1) sites) tokens streams site)
      go true is =
          let same : s ≡ site = is_same_site-true s site is in
          let here : IsNoted old s (streams s) = subst (IsNoted old s) (own_stream apart) (before s) in
          rw (among_next site, is, or_true (is_among (take i sites) site)) (subst (λ (n : SiteName). IsNoted new n (tokens ∷ streams n)) same (own (streams s) here))
      go false is =
          rw (among_next site, is, or_false (is_among (take i sites) site)) (others site (with_tokens (take i sites) tokens streams site) (apart_from s site is) (before site))

  -- and listed
  pub listed_next : NamesApart sites → (old : List NotedStream) → AreNoted old (with_tokens (take i sites) tokens streams) → (dep : ℕ)
      → ((stream : List (List Token)) → IsNoted old s stream → dep ≡ dependency_number tokens stream) → (to : List Destination) → to ≡ map (placed tokens streams) (take i sites)
      → to ++ record { site = s; dep = dep } ∷ [] ≡ map (placed tokens streams) (take (i + 1) sites)
  listed_next apart old before dep depends to so_far =
      let is : dep ≡ dependency_number tokens (streams s) = depends (streams s) (subst (IsNoted old s) (own_stream apart) (before s)) in
      rw (take_found sites i s there, map-append (placed tokens streams) (take i sites) (s ∷ []), so_far, is) refl

-- a later site can be noted as before
waits_on : (old new : List NotedStream) (size : ℕ) (tokens : List Token) (streams : TokenStreams) (s p : SiteName) → is_same_site s p ≡ false → sites_of new ≡ sites_of old
    → ((site : SiteName) → s ≢ site → room_for new site ≡ room_for old site) → AreNoted old streams
    → ((site : SiteName) (stream : List (List Token)) → s ≢ site → IsNoted old site stream → IsNoted new site stream) → CanBeNoted old size p → CanBeNoted new size p
waits_on old new size tokens streams s p off sites room before others can = record {
  indexed = IsIndexed-same old new p (sym sites) can.indexed;
  count = rw count can.count;
  room = rw (room p (apart_from s p off)) can.room;
}
  where
    count : noted_count new p ≡ noted_count old p
    count = (others p (streams p) (apart_from s p off) (before p)).count ∙ sym (before p).count

-- so can each
pub waits_each : (old new : List NotedStream) (size : ℕ) (tokens : List Token) (streams : TokenStreams) (s : SiteName) (ps : List SiteName) → is_among ps s ≡ false → sites_of new ≡ sites_of old
    → ((site : SiteName) → s ≢ site → room_for new site ≡ room_for old site) → AreNoted old streams
    → ((site : SiteName) (stream : List (List Token)) → s ≢ site → IsNoted old site stream → IsNoted new site stream) → AllByRecursion (CanBeNoted old size) ps → AllByRecursion (CanBeNoted new size) ps
waits_each old new size tokens streams s ps none sites room before others can = go ps (others_of s ps none) can
  where
    go : (qs : List SiteName) → AllByRecursion (λ (m : SiteName). is_same_site s m ≡ false) qs → AllByRecursion (CanBeNoted old size) qs → AllByRecursion (CanBeNoted new size) qs
    go [] off can = tt
    go (q ∷ qs) off can = (waits_on old new size tokens streams s q off.0 sites room before others can.0, go qs off.1 can.1)
