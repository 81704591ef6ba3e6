-- The first stream to a site: where it stands, and what is found after it is changed.
use Rattle.std.proofs.Common.{◌≡◌, ℕ, zero, suc, ◌+◌, ◌<◌, Bool, true, false, cond, List, [], ◌∷◌, length, map, get_or, set, Option, Some, None, refl, sym, ap, ◌∙◌, arith}
use Rattle.std.specs.Prelude.{◌≢◌, ◌↔◌, is_some, IsTrue}
use Rattle.std.specs.List.{position, position_from}
use Rattle.std.specs.Bool.{Decides}
use Rattle.std.specs.Cmp.{unsigned_Decides}
use Rattle.std.proofs.lemmas.Slice.Eq.{slice_eq-Decides}
use Rattle.std.proofs.lemmas.List.Quantifiers.{position-Some}
use Rattle.std.proofs.lemmas.Iterator.Adapters.{position_from-zero}
use Rattle.rep_values.specs.declared.name.SiteName.{SiteName}
use Rattle.rep_values.specs.Name.{same_bytes}
use Rattle.dependency_index.specs.declared.token.Token.{Token}
use Rattle.dependency_index.specs.Dependencies.{NotedStream, last_noted, last_where, noted_to, count_in, noted_in, noted_count, IsIndexed, IsNoted}
use Rattle.dependency_index.specs.Tokens.{has_token}

-- a stream to a site
abbrev pub is_to : SiteName → NotedStream → Bool
is_to site s = same_bytes s.kept.site.0 site.0

-- names that pass the test are the same
pub same_bytes-Decides : (a b : List ℕ) → Decides (same_bytes a b) (a ≡ b)
same_bytes-Decides a b = slice_eq-Decides unsigned_Decides a b (same_bytes a b) refl

noted_to-from : (site : SiteName) (n : ℕ) (ss : List NotedStream) → position_from (is_to site) n ss ≡ None → noted_to site ss ≡ None
noted_to-from site n [] none = refl
noted_to-from site n (s ∷ ss) none = go (is_to site s) (noted_to-from site (n + 1) ss) none
  where
    go : (here : Bool) → (position_from (is_to site) (n + 1) ss ≡ None → noted_to site ss ≡ None) → cond here (Some n) (position_from (is_to site) (n + 1) ss) ≡ None → cond here (Some s) (noted_to site ss) ≡ None
    go true rest none = cc
    go false rest none = rest none

-- none is found where none has a place
pub noted_to-none : (site : SiteName) (ss : List NotedStream) → position (is_to site) ss ≡ None → noted_to site ss ≡ None
noted_to-none site ss none = noted_to-from site 0 ss (sym (position_from-zero (is_to site) ss) ∙ none)

noted_to-at : (site : SiteName) (ss : List NotedStream) (i : ℕ) (d : NotedStream) → i < length ss → is_to site (get_or ss i d) ≡ true
    → ((k : ℕ) → k < i → is_to site (get_or ss k d) ≡ false) → noted_to site ss ≡ Some (get_or ss i d)
noted_to-at site [] i d within here before = absurd (omega arith)
noted_to-at site (s ∷ ss) zero d within here before = rw here refl
noted_to-at site (s ∷ ss) (suc i) d within here before = rw (before 0 (omega arith)) (noted_to-at site ss i d (omega arith) here (λ k lt. before (suc k) (omega arith)))

-- the first one is found
pub noted_to-place : (site : SiteName) (ss : List NotedStream) (i : ℕ) (s : NotedStream) → Some i ≡ position (is_to site) ss → s ≡ get_or ss i s → noted_to site ss ≡ Some s
noted_to-place site ss i s found is =
    let there = position-Some (is_to site) ss i s (sym found) in
    noted_to-at site ss i s there.0 there.1 there.2 ∙ ap Some (sym is)

noted_to-set_at : (site : SiteName) (ss : List NotedStream) (i : ℕ) (t d : NotedStream) → i < length ss → is_to site t ≡ true
    → ((k : ℕ) → k < i → is_to site (get_or ss k d) ≡ false) → noted_to site (set ss i t) ≡ Some t
noted_to-set_at site [] i t d within here before = absurd (omega arith)
noted_to-set_at site (s ∷ ss) zero t d within here before = rw here refl
noted_to-set_at site (s ∷ ss) (suc i) t d within here before = rw (before 0 (omega arith)) (noted_to-set_at site ss i t d (omega arith) here (λ k lt. before (suc k) (omega arith)))

-- after it is changed, the changed one
pub noted_to-set : (site : SiteName) (ss : List NotedStream) (i : ℕ) (s t : NotedStream) → Some i ≡ position (is_to site) ss → s ≡ get_or ss i s → t.kept.site ≡ s.kept.site
    → noted_to site (set ss i t) ≡ Some t
noted_to-set site ss i s t found is same =
    let there = position-Some (is_to site) ss i s (sym found) in
    let here : is_to site t ≡ true = ap (λ (n : SiteName). same_bytes n.0 site.0) (same ∙ ap (λ (x : NotedStream). x.kept.site) is) ∙ there.1 in
    noted_to-set_at site ss i t s there.0 here there.2

noted_to-set_behind : (site : SiteName) (ss : List NotedStream) (i : ℕ) (t d : NotedStream) → i < length ss → is_to site t ≡ false → is_to site (get_or ss i d) ≡ false
    → noted_to site (set ss i t) ≡ noted_to site ss
noted_to-set_behind site [] i t d within new old = absurd (omega arith)
noted_to-set_behind site (s ∷ ss) zero t d within new old = rw (new, old) refl
noted_to-set_behind site (s ∷ ss) (suc i) t d within new old = ap (λ rest. cond (is_to site s) (Some s) rest) (noted_to-set_behind site ss i t d (omega arith) new old)

-- a stream to one site isn't one to another
not_to : (to site : SiteName) (s : NotedStream) → to ≢ site → is_to to s ≡ true → is_to site s ≡ false
not_to to site s other here = go (is_to site s) refl
  where
    name : List ℕ → SiteName
    name bytes = record { 0 = bytes }

    go : (b : Bool) → is_to site s ≡ b → b ≡ false
    go true both =
        let first = (same_bytes-Decides s.kept.site.0 to.0).0 here in
        let second = (same_bytes-Decides s.kept.site.0 site.0).0 both in
        absurd (other (ap name (sym first ∙ second)))
    go false is = refl

-- and for other sites the same is found
pub noted_to-set_other : (to site : SiteName) (ss : List NotedStream) (i : ℕ) (s t : NotedStream) → Some i ≡ position (is_to to) ss → s ≡ get_or ss i s → t.kept.site ≡ s.kept.site
    → to ≢ site → noted_to site (set ss i t) ≡ noted_to site ss
noted_to-set_other to site ss i s t found is same other =
    let there = position-Some (is_to to) ss i s (sym found) in
    let old : is_to site (get_or ss i s) ≡ false = not_to to site (get_or ss i s) other there.1 in
    let new : is_to site t ≡ false = ap (λ (n : SiteName). same_bytes n.0 site.0) (same ∙ ap (λ (x : NotedStream). x.kept.site) is) ∙ old in
    noted_to-set_behind site ss i t s there.0 new old

-- the destinations are the same
pub sites-set : (ss : List NotedStream) (i : ℕ) (t d : NotedStream) → t.kept.site ≡ (get_or ss i d).kept.site → map (λ (s : NotedStream). s.kept.site) (set ss i t) ≡ map (λ (s : NotedStream). s.kept.site) ss
sites-set [] i t d same = refl
sites-set (s ∷ ss) zero t d same = ap (λ site. site ∷ map (λ (s : NotedStream). s.kept.site) ss) same
sites-set (s ∷ ss) (suc i) t d same = ap (λ rest. s.kept.site ∷ rest) (sites-set ss i t d same)

-- a place is found exactly where there is a stream
pub is_some-position : (site : SiteName) (ss : List NotedStream) → IsTrue (is_some (position (is_to site) ss)) ↔ IsIndexed ss site
is_some-position site ss = go (position (is_to site) ss) refl
  where
    there : (ss : List NotedStream) (i : ℕ) → noted_to site ss ≡ None → position (is_to site) ss ≡ Some i → ⊥
    there [] i none found = cc
    there (s ∷ ss) i none found =
        let at = position-Some (is_to site) (s ∷ ss) i s found in
        let is = noted_to-at site (s ∷ ss) i s at.0 at.1 at.2 in
        cc

    go : (place : Option ℕ) → position (is_to site) ss ≡ place → IsTrue (is_some place) ↔ IsIndexed ss site
    go None none = (λ yes. cc, λ is. absurd (is (noted_to-none site ss none)))
    go (Some i) found = (λ yes. λ none. there ss i none found, λ is. refl)

-- tokens noted at the next position are the stream's next transaction
pub IsNoted-next : (old new : List NotedStream) (site : SiteName) (s t : NotedStream) (position : ℕ) (tokens : List Token) (stream : List (List Token))
    → noted_to site old ≡ Some s → noted_to site new ≡ Some t → position ≡ noted_count old site + 1 → t.kept.count ≡ position
    → ((token : Token) → last_noted t.kept token ≡ cond (has_token tokens token) position (last_noted s.kept token))
    → IsNoted old site stream → IsNoted new site (tokens ∷ stream)
IsNoted-next old new site s t position tokens stream found changed next count noted is = record { count = number; last = last }
  where
    at_end : position ≡ length stream + 1
    at_end = next ∙ ap (λ n. n + 1) is.count

    number : noted_count new site ≡ suc (length stream)
    number = rw changed (omega (arith, count, at_end))

    last : (token : Token) → noted_in (noted_to site new) token ≡ last_where (λ (ts : List Token). has_token ts token) (tokens ∷ stream)
    last token = rw (changed, noted token, at_end) (ap (λ n. cond (has_token tokens token) (length stream + 1) n) (rw found at (is.last token)))

-- what is noted of a site stays where the same is found of it
pub IsNoted-found : (old new : List NotedStream) (site : SiteName) (stream : List (List Token)) → noted_to site new ≡ noted_to site old → IsNoted old site stream → IsNoted new site stream
IsNoted-found old new site stream same is = record { count = ap count_in same ∙ is.count; last = λ token. ap (λ (found : Option NotedStream). noted_in found token) same ∙ is.last token }
