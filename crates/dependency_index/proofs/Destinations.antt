-- The destinations of an index tell which sites are indexed.
use Rattle.std.proofs.Common.{◌≡◌, ℕ, zero, suc, ◌<◌, Bool, true, false, cond, List, [], ◌∷◌, length, get_or, Option, Some, None, refl, sym, ap, ◌∙◌, arith}
use Rattle.std.specs.Prelude.{◌||◌, is_some, Contains}
use Rattle.std.specs.List.{list_any}
use Rattle.rep_values.specs.declared.name.SiteName.{SiteName}
use Rattle.rep_values.specs.Name.{same_bytes}
use Rattle.dependency_index.specs.Dependencies.{NotedStream, noted_to, IsIndexed}
use Rattle.dependency_index.proofs.FoundStreams.{sites_of}
use Rattle.dependency_index.proofs.FirstStreams.{is_to, same_bytes-Decides}

indexed_at : (site : SiteName) (ss : List NotedStream) (k : ℕ) → k < length (sites_of ss) → get_or (sites_of ss) k site ≡ site → noted_to site ss ≡ None → ⊥
indexed_at site [] k within is none = absurd (omega arith)
indexed_at site (s ∷ ss) zero within is none =
    let here : is_to site s ≡ true = (same_bytes-Decides s.kept.site.0 site.0).1 (ap (λ (n : SiteName). n.0) is) in
    let found : Some s ≡ None = ap (λ b. cond b (Some s) (noted_to site ss)) (sym here) ∙ none in
    cc
indexed_at site (s ∷ ss) (suc k) within is none = go (is_to site s) none (indexed_at site ss k (omega arith) is)
  where
    go : (here : Bool) → cond here (Some s) (noted_to site ss) ≡ None → (noted_to site ss ≡ None → ⊥) → ⊥
    go true none rest = cc
    go false none rest = rest none

-- a destination is indexed
pub IsIndexed-Contains : (ss : List NotedStream) (site : SiteName) → Contains (sites_of ss) site → IsIndexed ss site
IsIndexed-Contains ss site there = λ none. indexed_at site ss there.0 there.1 there.2 none

is_some-noted_to : (site : SiteName) (ss : List NotedStream) → is_some (noted_to site ss) ≡ list_any (λ (n : SiteName). same_bytes n.0 site.0) (sites_of ss)
is_some-noted_to site [] = refl
is_some-noted_to site (s ∷ ss) = go (is_to site s) (is_some-noted_to site ss)
  where
    go : (here : Bool) → is_some (noted_to site ss) ≡ list_any (λ (n : SiteName). same_bytes n.0 site.0) (sites_of ss)
        → is_some (cond here (Some s) (noted_to site ss)) ≡ (here || list_any (λ (n : SiteName). same_bytes n.0 site.0) (sites_of ss))
    go true rest = refl
    go false rest = rest

none_found : (found : Option NotedStream) → is_some found ≡ false → found ≡ None
none_found None none = refl
none_found (Some s) none = cc

-- with the same destinations the same sites are indexed
pub IsIndexed-same : (ss ts : List NotedStream) (site : SiteName) → sites_of ss ≡ sites_of ts → IsIndexed ss site → IsIndexed ts site
IsIndexed-same ss ts site same is = λ none.
    let old : is_some (noted_to site ss) ≡ is_some (noted_to site ts) =
    is_some-noted_to site ss ∙ ap (λ sites. list_any (λ (n : SiteName). same_bytes n.0 site.0) sites) same ∙ sym (is_some-noted_to site ts) in
    is (none_found (noted_to site ss) (old ∙ ap is_some none))
