-- Where pages start, after an edit of the pages, and the page that has a place.
use Rattle.std.proofs.Common.{◌≡◌, ℕ, zero, suc, ◌+◌, ◌-◌, ◌<◌, ◌≤◌, List, [], ◌∷◌, ◌++◌, length, map, take, drop, get_or, set, refl, sym, ap, ◌∙◌, subst, arith}
use Rattle.std.specs.List.{AllByRecursion, insert, remove}
use Rattle.std.specs.List.Sorted.{IsNonDecreasingBy, IsPartitionPoint}
use Rattle.std.specs.Prelude.{slice_get}
use Rattle.std.proofs.lemmas.List.{length-append, append-nil}
use Rattle.rep_lists.proofs.Each.{each_at, each_drop}
use Rattle.page_tables.specs.Pages.{page_values, starts_from, starts_of}
use Rattle.page_tables.proofs.InPages.{get_in_page, get_behind_page}

module _ {X : Type 0} where
  pub length-starts : (pages : List (List X)) (n : ℕ) → length (starts_from n pages) ≡ length pages
  length-starts [] n = refl
  length-starts (q ∷ qs) n = ap suc (length-starts qs (n + length q))

  pub length-sums : (pages : List (List X)) (starts : List ℕ) → starts ≡ starts_of pages → length starts ≡ length pages
  length-sums pages starts sums = ap length sums ∙ length-starts pages 0

  -- no start is before the first
  start_least : (pages : List (List X)) (n j d : ℕ) → j < length pages → n ≤ get_or (starts_from n pages) j d
  start_least [] n j d within = absurd (omega (arith, within))
  start_least (q ∷ qs) n zero d within = omega arith
  start_least (q ∷ qs) n (suc j) d within = let rest = start_least qs (n + length q) j d (omega (arith, within)) in omega (arith, rest)

  -- the starts rise
  starts_rise_from : (pages : List (List X)) (n i j d : ℕ) → i ≤ j → j < length pages → get_or (starts_from n pages) i d ≤ get_or (starts_from n pages) j d
  starts_rise_from [] n i j d past within = absurd (omega (arith, within))
  starts_rise_from (q ∷ qs) n zero j d past within = start_least (q ∷ qs) n j d within
  starts_rise_from (q ∷ qs) n (suc i) zero d past within = absurd (omega (arith, past))
  starts_rise_from (q ∷ qs) n (suc i) (suc j) d past within = starts_rise_from qs (n + length q) i j d (omega (arith, past)) (omega (arith, within))

  pub starts_rise : (pages : List (List X)) → IsNonDecreasingBy (λ start. start) (starts_of pages)
  starts_rise pages i j d past within = starts_rise_from pages 0 i j d past (let same = length-starts pages 0 in omega (arith, same, within))

  -- the value at a place lies in the last page that starts there or before it
  started_from : (pages : List (List X)) (n p t : ℕ) → p < length pages → get_or (starts_from n pages) p 0 ≤ t
      → (suc p < length pages → t < get_or (starts_from n pages) (suc p) 0)
      → slice_get (page_values pages) (t - n) ≡ slice_get (get_or pages p []) (t - get_or (starts_from n pages) p 0)
  started_from [] n p t within past next = absurd (omega (arith, within))
  started_from (q ∷ []) n zero t within past next = ap (λ xs. slice_get xs (t - n)) (append-nil q)
  started_from (q ∷ r ∷ rs) n zero t within past next = let far = next (omega arith) in get_in_page q (page_values (r ∷ rs)) (t - n) (omega (arith, past, far))
  started_from (q ∷ qs) n (suc p) t within past next =
      let least = start_least qs (n + length q) p 0 (omega (arith, within)) in
      let behind : t - n - length q ≡ t - (n + length q) = omega arith in
      get_behind_page q (page_values qs) (t - n) (omega (arith, least, past))
      ∙ (ap (λ i. slice_get (page_values qs) i) behind ∙ started_from qs (n + length q) p t (omega (arith, within)) past (λ more. next (omega (arith, more))))

  pub started_in : (pages : List (List X)) (p place : ℕ) → p < length pages → get_or (starts_of pages) p 0 ≤ place
      → (suc p < length pages → place < get_or (starts_of pages) (suc p) 0)
      → slice_get (page_values pages) place ≡ slice_get (get_or pages p []) (place - get_or (starts_of pages) p 0)
  started_in pages p place within past next = let same : place - 0 ≡ place = omega arith in
      subst (λ t. slice_get (page_values pages) t ≡ slice_get (get_or pages p []) (place - get_or (starts_of pages) p 0)) same (started_from pages 0 p place within past next)

  -- one value more before all pages
  starts-more : (pages : List (List X)) (n : ℕ) → starts_from (n + 1) pages ≡ map (λ start. start + 1) (starts_from n pages)
  starts-more [] n = refl
  starts-more (q ∷ qs) n = let same : n + 1 + length q ≡ n + length q + 1 = omega arith in ap (λ t. (n + 1) ∷ t) (rw same (starts-more qs (n + length q)))

  starts-fewer : (pages : List (List X)) (n : ℕ) → starts_from n pages ≡ map (λ start. start - 1) (starts_from (n + 1) pages)
  starts-fewer [] n = refl
  starts-fewer (q ∷ qs) n =
      let same : n + 1 + length q ≡ n + length q + 1 = omega arith in
      let first : n + 1 - 1 ≡ n = omega arith in
      rw (same, first) (ap (λ t. n ∷ t) (starts-fewer qs (n + length q)))

  -- a page with one value more
  starts-longer : (pages : List (List X)) (n at : ℕ) (page : List X) → at < length pages → length page ≡ length (get_or pages at []) + 1
      → starts_from n (set pages at page) ≡ take (suc at) (starts_from n pages) ++ map (λ start. start + 1) (drop (suc at) (starts_from n pages))
  starts-longer [] n at page within longer = absurd (omega (arith, within))
  starts-longer (q ∷ qs) n zero page within longer = let same : n + length page ≡ n + length q + 1 = omega (arith, longer) in ap (λ t. n ∷ t) (rw same (starts-more qs (n + length q)))
  starts-longer (q ∷ qs) n (suc i) page within longer = ap (λ t. n ∷ t) (starts-longer qs (n + length q) i page (omega (arith, within)) longer)

  -- and one with one value less
  starts-shorter : (pages : List (List X)) (n at : ℕ) (page : List X) → at < length pages → length page + 1 ≡ length (get_or pages at [])
      → starts_from n (set pages at page) ≡ take (suc at) (starts_from n pages) ++ map (λ start. start - 1) (drop (suc at) (starts_from n pages))
  starts-shorter [] n at page within shorter = absurd (omega (arith, within))
  starts-shorter (q ∷ qs) n zero page within shorter = let same : n + length q ≡ n + length page + 1 = omega (arith, shorter) in ap (λ t. n ∷ t) (rw same (starts-fewer qs (n + length page)))
  starts-shorter (q ∷ qs) n (suc i) page within shorter = ap (λ t. n ∷ t) (starts-shorter qs (n + length q) i page (omega (arith, within)) shorter)

  -- a page that is left out has no values
  starts-remove_from : (pages : List (List X)) (n at : ℕ) → at < length pages → get_or pages at [] ≡ [] → starts_from n (remove pages at) ≡ remove (starts_from n pages) at
  starts-remove_from [] n at within none = absurd (omega (arith, within))
  starts-remove_from (q ∷ qs) n zero within none = let same : n ≡ n + length q = (let long = ap length none in omega (arith, long)) in ap (λ t. starts_from t qs) same
  starts-remove_from (q ∷ qs) n (suc i) within none = ap (λ t. n ∷ t) (starts-remove_from qs (n + length q) i (omega (arith, within)) none)

  -- two neighbours in one page
  starts-join_from : (pages : List (List X)) (n i : ℕ) → suc i < length pages
      → starts_from n (set (remove pages (suc i)) i (get_or pages i [] ++ get_or pages (suc i) [])) ≡ remove (starts_from n pages) (suc i)
  starts-join_from [] n i within = absurd (omega (arith, within))
  starts-join_from (q ∷ []) n i within = absurd (omega (arith, within))
  starts-join_from (q ∷ r ∷ rs) n zero within = let same : n + length (q ++ r) ≡ n + length q + length r = (let both = length-append q r in omega (arith, both)) in ap (λ t. n ∷ starts_from t rs) same
  starts-join_from (q ∷ r ∷ rs) n (suc i) within = ap (λ t. n ∷ t) (starts-join_from (r ∷ rs) (n + length q) i (omega (arith, within)))

  -- a page in two
  starts-split_from : (pages : List (List X)) (n at : ℕ) (a b : List X) → at < length pages
      → starts_from n (insert (set pages at a) (suc at) b) ≡ insert (starts_from n (set pages at (a ++ b))) (suc at) (get_or (starts_from n (set pages at (a ++ b))) at 0 + length a)
  starts-split_from [] n at a b within = absurd (omega (arith, within))
  starts-split_from (q ∷ qs) n zero a b within = let same : n + length a + length b ≡ n + length (a ++ b) = (let both = length-append a b in omega (arith, both)) in ap (λ t. n ∷ ((n + length a) ∷ starts_from t qs)) same
  starts-split_from (q ∷ qs) n (suc i) a b within = ap (λ t. n ∷ t) (starts-split_from qs (n + length q) i a b (omega (arith, within)))

  -- no start is behind all values
  starts_most : (pages : List (List X)) (n limit : ℕ) → n + length (page_values pages) < limit → AllByRecursion (λ start. start < limit) (starts_from n pages)
  starts_most [] n limit few = tt
  starts_most (q ∷ qs) n limit few = let both = length-append q (page_values qs) in (omega (arith, few), starts_most qs (n + length q) limit (omega (arith, both, few)))

  starts_past : (pages : List (List X)) (n least : ℕ) → least ≤ n → AllByRecursion (λ start. least ≤ start) (starts_from n pages)
  starts_past [] n least past = tt
  starts_past (q ∷ qs) n least past = (past, starts_past qs (n + length q) least (omega (arith, past)))

  -- behind a page with a value no start is the first place
  starts_some : (pages : List (List X)) (n at : ℕ) → at < length pages → 1 ≤ length (get_or pages at []) → AllByRecursion (λ start. 1 ≤ start) (drop (suc at) (starts_from n pages))
  starts_some [] n at within some = absurd (omega (arith, within))
  starts_some (q ∷ qs) n zero within some = starts_past qs (n + length q) 1 (omega (arith, some))
  starts_some (q ∷ qs) n (suc i) within some = starts_some qs (n + length q) i (omega (arith, within)) some

  -- where no page starts at a place or before it, there is no page
  pub none_started : (pages : List (List X)) (place : ℕ) → ((k d : ℕ) → 0 ≤ k → k < length (starts_of pages) → place < get_or (starts_of pages) k d) → pages ≡ []
  none_started [] place behind = refl
  none_started (q ∷ qs) place behind = let first = behind 0 0 (omega arith) (omega arith) in absurd (omega (arith, first))

  -- and else the value at the place lies in the last page that does
  pub slot_there : (pages : List (List X)) (starts : List ℕ) (place count : ℕ) → starts ≡ starts_of pages → IsPartitionPoint (λ start. start ≤ place) (λ start. place < start) starts count → count ≤ length starts → 0 < count
      → slice_get (page_values pages) place ≡ slice_get (get_or pages (count - 1) []) (place - get_or starts (count - 1) 0)
  slot_there pages starts place count sums point bound some =
      let same = ap length sums ∙ length-starts pages 0 in
      let there = point.0 (count - 1) 0 (omega arith) (omega (arith, some)) in
      rw sums (started_in pages (count - 1) place (omega (arith, same, bound, some)) (subst (λ t. get_or t (count - 1) 0 ≤ place) sums there)
      (λ more. subst (λ t. place < get_or t (suc (count - 1)) 0) sums (point.1 (suc (count - 1)) 0 (omega (arith, some)) (omega (arith, same, more)))))

  module _ (pages : List (List X)) (starts : List ℕ) (sums : starts ≡ starts_of pages) (at : ℕ) (within : at < length pages) where
    next : at + 1 ≡ suc at
    next = omega arith

    -- there is room for one more
    pub raise_few : length (page_values pages) < 9223372036854775808 → AllByRecursion (λ start. start < 9223372036854775808) (drop (at + 1) starts)
    raise_few few = rw sums (each_drop (λ start. start < 9223372036854775808) (at + 1) (starts_of pages) (starts_most pages 0 9223372036854775808 (omega (arith, few))))

    pub start_few : length (page_values pages) < 9223372036854775808 → get_or starts at 0 < 9223372036854775808
    start_few few = rw sums (each_at (λ start. start < 9223372036854775808) (starts_of pages) at 0 (let same = length-starts pages 0 in omega (arith, same, within)) (starts_most pages 0 9223372036854775808 (omega (arith, few))))

    -- and one to take
    pub lower_some : 1 ≤ length (get_or pages at []) → AllByRecursion (λ start. 1 ≤ start) (drop (at + 1) starts)
    lower_some some = rw (sums, next) (starts_some pages 0 at within some)

    -- the starts where a page has one value more, or one less
    pub raised : (page : List X) → length page ≡ length (get_or pages at []) + 1 → take (at + 1) starts ++ map (λ start. start + 1) (drop (at + 1) starts) ≡ starts_of (set pages at page)
    raised page longer = rw (sums, next) (sym (starts-longer pages 0 at page within longer))

    pub lowered : (page : List X) → length page + 1 ≡ length (get_or pages at []) → take (at + 1) starts ++ map (λ start. start - 1) (drop (at + 1) starts) ≡ starts_of (set pages at page)
    lowered page shorter = rw (sums, next) (sym (starts-shorter pages 0 at page within shorter))

    -- without a page that is empty
    pub dropped : get_or pages at [] ≡ [] → remove starts at ≡ starts_of (remove pages at)
    dropped none = rw sums (sym (starts-remove_from pages 0 at within none))

    -- with two neighbours in one
    pub merged : at + 1 < length pages → remove starts (at + 1) ≡ starts_of (set (remove pages (at + 1)) at (get_or pages at [] ++ get_or pages (at + 1) []))
    merged inside = rw (sums, next) (sym (starts-join_from pages 0 at (omega (arith, inside))))

  -- with one in two
  pub parted : (pages : List (List X)) (starts : List ℕ) (at : ℕ) (a b : List X) → at < length pages → starts ≡ starts_of (set pages at (a ++ b))
      → insert starts (at + 1) (get_or starts at 0 + length a) ≡ starts_of (insert (set pages at a) (at + 1) b)
  parted pages starts at a b within sums = let next : at + 1 ≡ suc at = omega arith in rw (sums, next) (sym (starts-split_from pages 0 at a b within))
