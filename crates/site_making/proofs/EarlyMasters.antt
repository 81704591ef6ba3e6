-- The names of the masters that are there from the start are distinct, and so are those without one of them.
use Rattle.std.proofs.Common.{◌≡◌, ◌≢◌, ℕ, zero, suc, ◌<◌, List, [], ◌∷◌, length, get_or, Bool, true, false, cond, arith}
use Rattle.std.specs.Prelude.{filter}
use Rattle.std.specs.List.{AllByRecursion}
use Rattle.std.proofs.lemmas.List.Elements.{recursion_from_All, All-from_recursion}
use Rattle.rep_values.specs.declared.name.SiteName.{SiteName}
use Rattle.rep_schema.specs.declared.schema.SiteEntry.{SiteEntry}
use Rattle.rep_schema.specs.Shape.{AreDistinct}
use Rattle.rep_schema.specs.Sites.{names_of}
use Rattle.rep_values.specs.SiteNames.{is_same_site}
use Rattle.site_state.proofs.SchemaSites.{AreApart, are_apart}
use Rattle.site_events.specs.Events.{without}

-- no two of these names are the same
abbrev Apart : List SiteName → Type 0
Apart [] = Unit {0}
Apart (n ∷ ns) = AllByRecursion (λ (other : SiteName). n ≢ other) ns × Apart ns

apart_of : (ns : List SiteName) → AreDistinct ns → Apart ns
apart_of [] distinct = tt
apart_of (n ∷ ns) distinct = (
  recursion_from_All (λ (other : SiteName). n ≢ other) ns (λ k d within. distinct 0 (suc k) d (omega arith) (omega (arith, within))),
  apart_of ns (λ i j d less within. distinct (suc i) (suc j) d (omega (arith, less)) (omega (arith, within))),
)

distinct_of : (ns : List SiteName) → Apart ns → AreDistinct ns
distinct_of [] apart i j d less within = absurd (omega (arith, within))
distinct_of (n ∷ ns) apart zero zero d less within = absurd (omega (arith, less))
distinct_of (n ∷ ns) apart zero (suc j) d less within = All-from_recursion (λ (other : SiteName). n ≢ other) ns apart.0 j d (omega (arith, within))
distinct_of (n ∷ ns) apart (suc i) zero d less within = absurd (omega (arith, less))
distinct_of (n ∷ ns) apart (suc i) (suc j) d less within = distinct_of ns apart.1 i j d (omega (arith, less)) (omega (arith, within))

-- ---- names of entries

others_kept : (name : SiteName) (test : SiteEntry → Bool) (es : List SiteEntry) → AllByRecursion (λ (u : SiteEntry). name ≢ u.name) es → AllByRecursion (λ (other : SiteName). name ≢ other) (names_of (filter test es))
others_kept name test [] all = tt
others_kept name test (e ∷ es) all = go (test e) (others_kept name test es all.1)
  where
    go : (b : Bool) → AllByRecursion (λ (other : SiteName). name ≢ other) (names_of (filter test es))
        → AllByRecursion (λ (other : SiteName). name ≢ other) (names_of (cond b (e ∷ filter test es) (filter test es)))
    go true later = (all.0, later)
    go false later = later

names_apart : (test : SiteEntry → Bool) (es : List SiteEntry) → AreApart es → Apart (names_of (filter test es))
names_apart test [] apart = tt
names_apart test (e ∷ es) apart = go (test e) (names_apart test es apart.1)
  where
    go : (b : Bool) → Apart (names_of (filter test es)) → Apart (names_of (cond b (e ∷ filter test es) (filter test es)))
    go true later = (others_kept e.name test es apart.0, later)
    go false later = later

-- the names of those entries that pass a test are distinct, where the entries have distinct names
pub filtered_distinct : (test : SiteEntry → Bool) (es : List SiteEntry) → AreDistinct (names_of es) → AreDistinct (names_of (filter test es))
filtered_distinct test es distinct = distinct_of (names_of (filter test es)) (names_apart test es (are_apart es distinct))

-- ---- names without one

without_kept : (name one : SiteName) (ns : List SiteName) → AllByRecursion (λ (other : SiteName). one ≢ other) ns → AllByRecursion (λ (other : SiteName). one ≢ other) (without name ns)
without_kept name one [] all = tt
without_kept name one (n ∷ ns) all = go (is_same_site n name) (without_kept name one ns all.1)
  where
    go : (b : Bool) → AllByRecursion (λ (other : SiteName). one ≢ other) (without name ns) → AllByRecursion (λ (other : SiteName). one ≢ other) (cond b (without name ns) (n ∷ without name ns))
    go true later = later
    go false later = (all.0, later)

without_apart : (name : SiteName) (ns : List SiteName) → Apart ns → Apart (without name ns)
without_apart name [] apart = tt
without_apart name (n ∷ ns) apart = go (is_same_site n name) (without_apart name ns apart.1)
  where
    go : (b : Bool) → Apart (without name ns) → Apart (cond b (without name ns) (n ∷ without name ns))
    go true later = later
    go false later = (without_kept name n ns apart.0, later)

-- distinct names are distinct without one
pub without_distinct : (name : SiteName) (ns : List SiteName) → AreDistinct ns → AreDistinct (without name ns)
without_distinct name ns distinct = distinct_of (without name ns) (without_apart name ns (apart_of ns distinct))
