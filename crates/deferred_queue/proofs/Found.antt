-- What is read of the first stream to a site, and of new streams.
use Rattle.std.proofs.Common.{◌≡◌, ℕ, ◌≤◌, Bool, true, false, cond, List, [], ◌∷◌, length, map, Some, None, refl, ap, arith}
use Rattle.std.specs.List.{AllByRecursion, find}
use Rattle.rep_values.specs.declared.name.SiteName.{SiteName}
use Rattle.deferred_queue.specs.Streams.{Mark, IsDestination, acked_by}
use Rattle.rep_values.specs.SiteNames.{is_same_site}
use Rattle.deferred_queue.specs.QueueState.{Kept, QueueState, kept_of, stream_marks, entries_to, is_stream_to, entries_found, acked_found, new_held, AreAlike, IsStream, AreStreams}

-- the entries of the stream that is found
pub entries_found-find : (site : SiteName) (hs : List QueueState) → entries_found (find (is_stream_to site) hs) ≡ entries_to site (kept_of hs)
entries_found-find site [] = refl
entries_found-find site (h ∷ hs) = go (is_same_site h.kept.site site) (entries_found-find site hs)
  where
    go : (b : Bool) → entries_found (find (is_stream_to site) hs) ≡ entries_to site (kept_of hs) → entries_found (cond b (Some h) (find (is_stream_to site) hs)) ≡ cond b h.kept.entries (entries_to site (kept_of hs))
    go true later = refl
    go false later = later

-- and how far it is acknowledged
pub acked_found-find : (site : SiteName) (hs : List QueueState) → acked_found (find (is_stream_to site) hs) ≡ acked_by site (stream_marks (kept_of hs))
acked_found-find site [] = refl
acked_found-find site (h ∷ hs) = go (is_same_site h.kept.site site) (acked_found-find site hs)
  where
    go : (b : Bool) → acked_found (find (is_stream_to site) hs) ≡ acked_by site (stream_marks (kept_of hs)) → acked_found (cond b (Some h) (find (is_stream_to site) hs)) ≡ cond b h.kept.acked (acked_by site (stream_marks (kept_of hs)))
    go true later = refl
    go false later = later

-- a site's mark isn't behind the end of its stream
pub acked_by-within : (site : SiteName) (count : ℕ) (ks : List Kept) → AllByRecursion (IsStream count) ks → acked_by site (stream_marks ks) ≤ length (entries_to site ks)
acked_by-within site count [] each = omega arith
acked_by-within site count (k ∷ ks) each = go (is_same_site k.site site) (acked_by-within site count ks each.1)
  where
    go : (b : Bool) → acked_by site (stream_marks ks) ≤ length (entries_to site ks) → cond b k.acked (acked_by site (stream_marks ks)) ≤ length (cond b k.entries (entries_to site ks))
    go true later = each.0.within
    go false later = later

-- new streams have marks of 0
pub marks_of-new : (sites : List SiteName) → stream_marks (kept_of (map new_held sites)) ≡ map (λ (site : SiteName). record { site = site; acked = 0 }) sites
marks_of-new [] = refl
marks_of-new (site ∷ sites) = ap (λ (ms : List Mark). record { site = site; acked = 0 } ∷ ms) (marks_of-new sites)

-- new streams are streams
pub AreStreams-new : (count : ℕ) (sites : List SiteName) → AreStreams count (kept_of (map new_held sites))
AreStreams-new count sites = record { each = each_new sites; alike = alike_new sites }
  where
    each_new : (sites : List SiteName) → AllByRecursion (IsStream count) (kept_of (map new_held sites))
    each_new [] = tt
    each_new (site ∷ sites) = (record { falling = tt; earlier = tt; within = omega arith }, each_new sites)

    none_differs : (site : SiteName) (sites : List SiteName) → AllByRecursion (λ (other : Kept). other.site ≡ site → other ≡ record { site = site; acked = 0; entries = [] }) (kept_of (map new_held sites))
    none_differs site [] = tt
    none_differs site (other ∷ sites) = (λ same. ap (λ (s : SiteName). record { site = s; acked = 0; entries = [] }) same, none_differs site sites)

    alike_new : (sites : List SiteName) → AreAlike (kept_of (map new_held sites))
    alike_new [] = tt
    alike_new (site ∷ sites) = (none_differs site sites, alike_new sites)

-- a site is a destination where it has a stream
pub destination-find : (site : SiteName) (hs : List QueueState) (h : QueueState) → find (is_stream_to site) hs ≡ Some h → IsDestination (stream_marks (kept_of hs)) site
destination-find site [] h found = absurd (cc found)
destination-find site (first ∷ hs) h found = go (is_same_site first.kept.site site) refl (destination-find site hs h) found
  where
    go : (b : Bool) → is_same_site first.kept.site site ≡ b → (find (is_stream_to site) hs ≡ Some h → IsDestination (stream_marks (kept_of hs)) site)
        → cond b (Some first) (find (is_stream_to site) hs) ≡ Some h → IsDestination (stream_marks (kept_of (first ∷ hs))) site
    go true is later there = rw is (λ none. absurd (cc none))
    go false is later there = rw is (later there)

-- and isn't where it has none
pub destination-none : (site : SiteName) (hs : List QueueState) → find (is_stream_to site) hs ≡ None → ¬ IsDestination (stream_marks (kept_of hs)) site
destination-none site [] none = λ is. is refl
destination-none site (first ∷ hs) none = go (is_same_site first.kept.site site) refl (destination-none site hs) none
  where
    go : (b : Bool) → is_same_site first.kept.site site ≡ b → (find (is_stream_to site) hs ≡ None → ¬ IsDestination (stream_marks (kept_of hs)) site)
        → cond b (Some first) (find (is_stream_to site) hs) ≡ None → ¬ IsDestination (stream_marks (kept_of (first ∷ hs))) site
    go true is later none = absurd (cc none)
    go false is later none = rw is (later none)
