-- Pasts within others, and from where on the pasts of arrivals rise where another one comes.
use Rattle.std.proofs.Common.{◌≡◌, ℕ, zero, suc, ◌+◌, ◌-◌, ◌<◌, ◌≤◌, List, [], ◌∷◌, length, get_or, Bool, true, false, Some, None, refl, subst, inl, inr, arith}
use Rattle.std.specs.Prelude.{◌&&◌, ◌||◌, nat_le, slice_get}
use Rattle.std.specs.List.{AllByRecursion}
use Rattle.std.specs.Ordering.{nat_cmp}
use Rattle.std.specs.Cmp.{nat_cmp_is}
use Rattle.std.specs.declared.cmp.Ordering.{Ordering}
use Rattle.std.specs.declared.cmp.Ordering.TheVariants.{Less, Equal, Greater}
use Rattle.std.proofs.lemmas.Bool.{and_parts, and_from, cases_lt}
use Rattle.std.proofs.lemmas.Bool.Decides.{nat_tests}
use Rattle.std.proofs.lemmas.Option.{slice_get_within, get_or_from_slice_get}
use Rattle.rep_lists.specs.Rising.{IsRising, find_at, put_at, found_here, put_here}
use Rattle.rep_lists.proofs.Rising.{all_put}
use Rattle.rep_calls.specs.declared.past.PastEntry.{PastEntry}
use Rattle.rep_values.specs.SiteNames.{is_same_site}
use Rattle.deferred_queue.proofs.Sites.{is_same_site-true}
use Rattle.origin_marks.proofs.Counts.{cmp_less}
use Rattle.site_state.specs.declared.arrival.Arrival.{Arrival}
use Rattle.site_state.specs.State.{arrival_beside}
use Rattle.sender_inbox.specs.Incoming.{by_position, IsFirstAbove}
use Rattle.sender_inbox.specs.Reaching.{reaches, is_within, PastsRise}
use Rattle.sender_inbox.proofs.Places.{of_each, find_at-own}

-- ---- pasts within others

pub le_through : (n m k : ℕ) → nat_le n m ≡ true → nat_le m k ≡ true → nat_le n k ≡ true
le_through n m k first next = grind (arith, nat_tests, first, next)

-- what reaches as far as something reaches as far as what that covers
reaches_more : (past : List PastEntry) (p q : PastEntry) → is_same_site q.origin p.origin ≡ true → nat_le p.number q.number ≡ true → reaches past q ≡ true → reaches past p ≡ true
reaches_more [] p q same less found = cc
reaches_more (r ∷ past) p q same less found = go (is_same_site r.origin q.origin && nat_le q.number r.number) refl found (reaches_more past p q same less)
  where
    test : PastEntry → Bool
    test r = is_same_site r.origin p.origin && nat_le p.number r.number

    go : (b : Bool) → (is_same_site r.origin q.origin && nat_le q.number r.number) ≡ b → (b || reaches past q) ≡ true → (reaches past q ≡ true → reaches past p ≡ true) → (test r || reaches past p) ≡ true
    go true here is later =
        let parts = and_parts (is_same_site r.origin q.origin) (nat_le q.number r.number) here in
        let one : is_same_site r.origin p.origin ≡ true = subst (λ (o : _). is_same_site r.origin o ≡ true) (is_same_site-true q.origin p.origin same) parts.0 in
        let both : test r ≡ true = and_from (is_same_site r.origin p.origin) (nat_le p.number r.number) one (le_through p.number q.number r.number less parts.1) in
        rw both refl
    go false here is later = right (test r) (reaches past p) (later is)
      where
        right : (b c : Bool) → c ≡ true → (b || c) ≡ true
        right true c is = refl
        right false c is = is

reaches_through : (past later : List PastEntry) (p : PastEntry) → reaches past p ≡ true → is_within past later ≡ true → reaches later p ≡ true
reaches_through [] later p found within = cc
reaches_through (q ∷ past) later p found within = go (is_same_site q.origin p.origin && nat_le p.number q.number) refl found (reaches_through past later p)
  where
    parts : (reaches later q ≡ true) × (is_within past later ≡ true)
    parts = and_parts (reaches later q) (is_within past later) within

    go : (b : Bool) → (is_same_site q.origin p.origin && nat_le p.number q.number) ≡ b → (b || reaches past p) ≡ true → (reaches past p ≡ true → is_within past later ≡ true → reaches later p ≡ true) → reaches later p ≡ true
    go true here is rest = let both = and_parts (is_same_site q.origin p.origin) (nat_le p.number q.number) here in reaches_more later p q both.0 both.1 parts.0
    go false here is rest = rest is parts.1

-- a past is within what another one is within, where it is within that
within_through : (past middle later : List PastEntry) → is_within past middle ≡ true → is_within middle later ≡ true → is_within past later ≡ true
within_through [] middle later first next = refl
within_through (p ∷ past) middle later first next =
    let parts = and_parts (reaches middle p) (is_within past middle) first in
    and_from (reaches later p) (is_within past later) (reaches_through middle later p parts.0 next) (within_through past middle later parts.1 next)

-- ---- from where on pasts rise

-- the past of an arrival is within that of each later one
pub within_later : (from : ℕ) (xs : List Arrival) (i k : ℕ) (a b : Arrival) → PastsRise from xs → slice_get xs i ≡ Some a → from ≤ a.position → i < k → slice_get xs k ≡ Some b → is_within a.past b.past ≡ true
within_later from [] i k a b rise here le later there = absurd (cc here)
within_later from (x ∷ xs) i zero a b rise here le later there = absurd (omega (arith, later))
within_later from (x ∷ xs) zero (suc k) a b rise here le later there =
    let same : x ≡ a = cc here in
    let first = subst (λ (y : Arrival). from ≤ y.position → AllByRecursion (λ (c : Arrival). is_within y.past c.past ≡ true) xs) same rise.0 in
    of_each (λ (c : Arrival). is_within a.past c.past ≡ true) xs k b (first le) there
within_later from (x ∷ xs) (suc i) (suc k) a b rise here le later there = within_later from xs i k a b rise.1 here le (omega (arith, later)) there

-- from a later position on as well
rise_later : (from n : ℕ) (xs : List Arrival) → from ≤ n → PastsRise from xs → PastsRise n xs
rise_later from n [] le rise = tt
rise_later from n (x ∷ xs) le rise = (λ below. rise.0 (omega (arith, le, below)), rise_later from n xs le rise.1)

-- and from one on at which nothing stands yet
rise_beyond : (n : ℕ) (xs : List Arrival) → AllByRecursion (λ (x : Arrival). x.position < n) xs → PastsRise n xs
rise_beyond n [] before = tt
rise_beyond n (x ∷ xs) before = (λ from. absurd (omega (arith, from, before.0)), rise_beyond n xs before.1)

module _ (a : Arrival) where
  -- what comes in front of such a position makes no difference
  rise_behind : (n : ℕ) (xs : List Arrival) → a.position < n → find_at (arrival_beside a.position) xs ≡ None → PastsRise n xs → PastsRise n (put_at (arrival_beside a.position) a xs)
  rise_behind n [] before absent rise = (λ from. tt, tt)
  rise_behind n (x ∷ xs) before absent rise = go (nat_cmp x.position a.position) refl absent (λ later. rise_behind n xs before later rise.1)
    where
      go : (o : Ordering) → nat_cmp x.position a.position ≡ o → found_here o x (find_at (arrival_beside a.position) xs) ≡ None → (find_at (arrival_beside a.position) xs ≡ None → PastsRise n (put_at (arrival_beside a.position) a xs))
          → PastsRise n (put_here o a x xs (put_at (arrival_beside a.position) a xs))
      go Less at none rest = let first : x.position < a.position = cmp_less x.position a.position at in (λ from. absurd (omega (arith, from, first, before)), rest none)
      go Equal at none rest = absurd (cc none)
      go Greater at none rest = (λ from. absurd (omega (arith, from, before)), rise)

  -- behind all others, where their pasts are within its own
  rise_end : (from : ℕ) (xs : List Arrival) → AllByRecursion (λ (x : Arrival). x.position < a.position) xs → AllByRecursion (λ (x : Arrival). from ≤ x.position → is_within x.past a.past ≡ true) xs → PastsRise from xs
      → PastsRise from (put_at (arrival_beside a.position) a xs)
  rise_end from [] before within rise = (λ le. tt, tt)
  rise_end from (x ∷ xs) before within rise =
      rw (← nat_cmp_is x.position a.position Less before.0)
      (λ le. all_put (arrival_beside a.position) (λ (b : Arrival). is_within x.past b.past ≡ true) a xs (within.0 le) (rise.0 le), rise_end from xs before.1 within.1 rise.1)

none_left : (P : Arrival → Type 0) (xs : List Arrival) → 1 ≡ length xs + 1 → AllByRecursion P xs
none_left P [] none = tt
none_left P (x ∷ xs) none = absurd (omega (arith, none))

module _ (l : Arrival) where
  -- all are in front of what is behind the last one
  before_last : (p : ℕ) (xs : List Arrival) (k : ℕ) → k + 1 ≡ length xs → slice_get xs k ≡ Some l → IsRising by_position xs → l.position < p → AllByRecursion (λ (x : Arrival). x.position < p) xs
  before_last p [] k last there rising less = tt
  before_last p (x ∷ xs) zero last there rising less =
      let same : x ≡ l = cc there in
      (rw same less, none_left (λ (y : Arrival). y.position < p) xs (omega (arith, last)))
  before_last p (x ∷ xs) (suc k) last there rising less =
      let first : x.position < l.position = cmp_less x.position l.position (of_each (λ (y : Arrival). by_position x y ≡ Less) xs k l rising.0 there) in
      (omega (arith, first, less), before_last p xs k (omega (arith, last)) there rising.1 less)

  -- the pasts of all are within that of the last one, and so within what that is within
  within_last : (from : ℕ) (past : List PastEntry) (xs : List Arrival) (k : ℕ) → k + 1 ≡ length xs → slice_get xs k ≡ Some l → PastsRise from xs → is_within l.past past ≡ true
      → AllByRecursion (λ (x : Arrival). from ≤ x.position → is_within x.past past ≡ true) xs
  within_last from past [] k last there rise within = tt
  within_last from past (x ∷ xs) zero last there rise within =
      let same : x ≡ l = cc there in
      (λ le. rw same within, none_left (λ (y : Arrival). from ≤ y.position → is_within y.past past ≡ true) xs (omega (arith, last)))
  within_last from past (x ∷ xs) (suc k) last there rise within =
      (λ le. within_through x.past l.past past (of_each (λ (b : Arrival). is_within x.past b.past ≡ true) xs k l (rise.0 le) there) within, within_last from past xs k (omega (arith, last)) there rise.1 within)

-- ---- another arrival

module _ (a : Arrival) (from : ℕ) (xs : List Arrival) (rising : IsRising by_position xs) (absent : find_at (arrival_beside a.position) xs ≡ None) (rise : PastsRise from xs) where
  -- in front of another one
  pub rise_between : (n : ℕ) → from ≤ n → a.position < n → PastsRise n (put_at (arrival_beside a.position) a xs)
  rise_between n le before = rise_behind a n xs before absent (rise_later from n xs le rise)

  module _ (l : Arrival) (last : slice_get xs (length xs - 1) ≡ Some l) where
    at_end : length xs - 1 + 1 ≡ length xs
    at_end = let within = slice_get_within xs (length xs - 1) l last in omega (arith, within)

    -- its position isn't that of the last one
    behind_last : l.position ≤ a.position → l.position < a.position
    behind_last le = elim (cases_lt l.position a.position) [
      | inl less ↦ less
      | inr ge ↦ let same : a.position ≡ l.position = omega (arith, le, ge) in let there = rw same at absent in absurd (let found = find_at-own xs (length xs - 1) l rising last in cc (found, there))
    ]

    -- behind all, with a past within which that of the last one is
    pub rise_on : l.position ≤ a.position → is_within l.past a.past ≡ true → PastsRise from (put_at (arrival_beside a.position) a xs)
    rise_on le within =
        rise_end a from xs (before_last l a.position xs (length xs - 1) at_end last rising (behind_last le)) (within_last l from a.past xs (length xs - 1) at_end last rise within) rise

    -- behind all, with any past
    pub rise_anew : l.position ≤ a.position → PastsRise a.position (put_at (arrival_beside a.position) a xs)
    rise_anew le =
        let all = before_last l a.position xs (length xs - 1) at_end last rising (behind_last le) in
        rise_end a a.position xs all (beyond xs all) (rise_beyond a.position xs all)
      where
        beyond : (ys : List Arrival) → AllByRecursion (λ (y : Arrival). y.position < a.position) ys → AllByRecursion (λ (y : Arrival). a.position ≤ y.position → is_within y.past a.past ≡ true) ys
        beyond [] all = tt
        beyond (y ∷ ys) all = (λ at. absurd (omega (arith, at, all.0)), beyond ys all.1)

    -- where the last one stands above it, there is a first one that does
    pub next_within : a.position < l.position → (place : ℕ) → IsFirstAbove a.position xs place → place < length xs
    next_within less place first = elim (cases_lt place (length xs)) [
      | inl within ↦ within
      | inr ge ↦
          let low = first.before (length xs - 1) l (omega arith) (omega (arith, at_end, ge)) in
          let is : get_or xs (length xs - 1) l ≡ l = get_or_from_slice_get xs (length xs - 1) l l last in
          absurd (omega (arith, less, rw is at low))
    ]
