-- Values that lie in pages, each value beside what is looked for.
use Rattle.std.specs.Prelude.{◌≡◌, ◌≢◌, ℕ, suc, ◌+◌, ◌-◌, ◌*◌, ◌<◌, ◌≤◌, List, [], ◌∷◌, ◌++◌, length, take, drop, slice_get, Option, Some, None}
use Rattle.std.specs.List.{AllByRecursion}
use Rattle.std.specs.declared.cmp.Ordering.{Ordering}
use Rattle.std.specs.declared.cmp.Ordering.TheVariants.{Less, Greater}
use Rattle.rep_lists.specs.Rising.{put_at}

-- the values of all pages, in their order
abbrev pub page_values : {X : Type 0} → List (List X) → List X
page_values [] = []
page_values (page ∷ pages) = page ++ page_values pages

-- values that stand before the place, then at most one that stands at it, then values that stand behind it
abbrev pub IsParted : {X : Type 0} → (X → Ordering) → List X → Type 0
IsParted at [] = Unit {0}
IsParted at (x ∷ xs) = (at x ≢ Less → AllByRecursion (λ y. at y ≡ Greater) xs) × IsParted at xs

abbrev pub where_first : {X : Type 0} → (X → Ordering) → Option X → Ordering
where_first at None = Less
where_first at (Some x) = at x

-- where the first value of a page stands
abbrev pub at_first : {X : Type 0} → (X → Ordering) → List X → Ordering
at_first at page = where_first at (slice_get page 0)

-- a page that is kept has 1 to 64 values
pub record IsPage {X : Type 0} (page : List X) : Type 0 where
  pub some : 1 ≤ length page
  pub most : length page ≤ 64

-- a page and the one behind it have at least 32 values
abbrev pub IsCloseTo : {X : Type 0} → List X → List (List X) → Type 0
IsCloseTo page [] = Unit {0}
IsCloseTo page (next ∷ pages) = 32 ≤ length page + length next

-- and so each two neighbours
abbrev pub AreClose : {X : Type 0} → List (List X) → Type 0
AreClose [] = Unit {0}
AreClose (page ∷ pages) = IsCloseTo page pages × AreClose pages

-- the page in which a value stands or would stand: what lies in the pages before it is before the place, and what lies in the pages behind it is behind the place
pub record IsPageFor {X : Type 0} (at : X → Ordering) (pages : List (List X)) (p : ℕ) : Type 0 where
  pub in_range : p < length pages
  pub before : AllByRecursion (λ x. at x ≡ Less) (page_values (take p pages))
  pub behind : AllByRecursion (λ x. at x ≡ Greater) (page_values (drop (suc p) pages))

-- so many pages have room for so many values, however they come and go
abbrev pub most_in : ℕ → ℕ
most_in pages = 16 * (pages - 1)

-- pages that are kept, and empty ones that wait, with a place in the directory and one among those that wait for each of them
pub record ArePages {X : Type 0} (pages waiting : List (List X)) (places backs : ℕ) : Type 0 where
  pub filled : AllByRecursion IsPage pages
  pub close : AreClose pages
  pub blank : AllByRecursion (λ page. page ≡ []) waiting
  pub room : length pages + length waiting ≤ places
  pub back : length pages + length waiting ≤ backs
  pub few : length pages + length waiting ≤ 4294967296
  pub fits : length (page_values pages) ≤ most_in (length pages + length waiting)

-- for each page the number of values in the pages before it, where before the first there are so many
abbrev pub starts_from : {X : Type 0} → ℕ → List (List X) → List ℕ
starts_from start [] = []
starts_from start (page ∷ pages) = start ∷ starts_from (start + length page) pages

-- and where before the first there are none
abbrev pub starts_of : {X : Type 0} → List (List X) → List ℕ
starts_of pages = starts_from 0 pages

-- where the pages that are kept start, with a place for the start of each page that waits
pub record AreStarts {X : Type 0} (pages waiting : List (List X)) (starts : List ℕ) (places : ℕ) : Type 0 where
  pub sums : starts ≡ starts_of pages
  pub room : length pages + length waiting ≤ places

-- the values, and for how many there is room in all
pub record Paged : Type 0 where
  pub items : List ℕ
  pub most : ℕ

-- the values with this one among them, unless one was found where it belongs
abbrev pub entered : Option ℕ → (ℕ → Ordering) → ℕ → List ℕ → List ℕ
entered None at slot slots = put_at at slot slots
entered (Some found) at slot slots = slots
