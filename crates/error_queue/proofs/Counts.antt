-- How many errors stand, and the errors in order list by list.
use Rattle.std.proofs.Common.{◌≡◌, ℕ, zero, suc, ◌+◌, ◌-◌, ◌<◌, ◌≤◌, List, [], ◌∷◌, ◌++◌, length, map, drop, get_or, set, Some, None, refl, ap, arith, length-append}
use Rattle.std.specs.Prelude.{slice_get}
use Rattle.std.specs.declared.cmp.Ordering.{Ordering}
use Rattle.std.specs.declared.cmp.Ordering.TheVariants.{Less, Equal, Greater}
use Rattle.rep_lists.specs.Rising.{find_at, put_at, take_at, found_here, put_here, taken_here}
use Rattle.rep_lists.proofs.Places.{drop_from_place}
use Rattle.rep_values.specs.declared.name.SiteName.{SiteName}
use Rattle.error_queue.specs.declared.entry.ErrorEntry.{ErrorEntry}
use Rattle.error_queue.specs.ErrorLists.{no_errors, in_order}
use Rattle.error_queue.specs.ErrorQueueState.{OriginErrorsState, lists_of}

module _ {X : Type 0} (at : X → Ordering) where
  -- a value that wasn't there is one more
  pub length-put_at : (y : X) (xs : List X) → find_at at xs ≡ None → length (put_at at y xs) ≡ length xs + 1
  length-put_at y [] absent = refl
  length-put_at y (x ∷ xs) absent = go (at x) absent (length-put_at y xs)
    where
      go : (o : Ordering) → found_here o x (find_at at xs) ≡ None → (find_at at xs ≡ None → length (put_at at y xs) ≡ length xs + 1) → length (put_here o y x xs (put_at at y xs)) ≡ suc (length xs) + 1
      go Less none later = omega (arith, later none)
      go Equal none later = cc
      go Greater none later = omega arith

  -- one that was there is one less
  pub length-take_at : (y : X) (xs : List X) → find_at at xs ≡ Some y → length (take_at at xs) + 1 ≡ length xs
  length-take_at y [] there = cc
  length-take_at y (x ∷ xs) there = go (at x) there (length-take_at y xs)
    where
      go : (o : Ordering) → found_here o x (find_at at xs) ≡ Some y → (find_at at xs ≡ Some y → length (take_at at xs) + 1 ≡ length xs) → length (taken_here o x xs (take_at at xs)) + 1 ≡ suc (length xs)
      go Less some later = omega (arith, later some)
      go Equal some later = omega arith
      go Greater some later = cc

  -- where nothing is there, nothing is taken
  pub take_at-none : (xs : List X) → find_at at xs ≡ None → take_at at xs ≡ xs
  take_at-none [] absent = refl
  take_at-none (x ∷ xs) absent = go (at x) absent (take_at-none xs)
    where
      go : (o : Ordering) → found_here o x (find_at at xs) ≡ None → (find_at at xs ≡ None → take_at at xs ≡ xs) → taken_here o x xs (take_at at xs) ≡ x ∷ xs
      go Less none later = ap (λ t. x ∷ t) (later none)
      go Equal none later = cc
      go Greater none later = refl

-- the errors of a list take the place of those before
pub length-in_order-set : (hs : List OriginErrorsState) (i : ℕ) (h d : OriginErrorsState) → i < length hs
    → length (in_order (lists_of (set hs i h))) + length (get_or hs i d).list.entries ≡ length (in_order (lists_of hs)) + length h.list.entries
length-in_order-set [] i h d within = absurd (omega (arith, within))
length-in_order-set (x ∷ xs) zero h d within = omega (arith, length-append h.list.entries (in_order (lists_of xs)), length-append x.list.entries (in_order (lists_of xs)))
length-in_order-set (x ∷ xs) (suc i) h d within =
    omega (arith, length-append x.list.entries (in_order (lists_of (set xs i h))), length-append x.list.entries (in_order (lists_of xs)), length-in_order-set xs i h d (omega (arith, within)))

module _ (at : ErrorEntry → Ordering) (hs : List OriginErrorsState) (i : ℕ) (old new : OriginErrorsState) (within : i < length hs) (is : old ≡ get_or hs i old) where
  length-in_order-place : length (in_order (lists_of (set hs i new))) + length old.list.entries ≡ length (in_order (lists_of hs)) + length new.list.entries
  length-in_order-place = omega (arith, length-in_order-set hs i new old within, ap (λ (h : OriginErrorsState). length h.list.entries) is)

  -- an error that is added is one more
  pub length-in_order-put : (e : ErrorEntry) → find_at at old.list.entries ≡ None → new.list.entries ≡ put_at at e old.list.entries → length (in_order (lists_of (set hs i new))) ≡ length (in_order (lists_of hs)) + 1
  length-in_order-put e absent put = omega (arith, length-in_order-place, ap (length {A = ErrorEntry}) put, length-put_at at e old.list.entries absent)

  -- one that is taken is one less
  pub length-in_order-take : (e : ErrorEntry) → find_at at old.list.entries ≡ Some e → new.list.entries ≡ take_at at old.list.entries → length (in_order (lists_of (set hs i new))) + 1 ≡ length (in_order (lists_of hs))
  length-in_order-take e there take = omega (arith, length-in_order-place, ap (length {A = ErrorEntry}) take, length-take_at at e old.list.entries there)

  -- where none stood, they are as many as before
  pub length-in_order-untaken : find_at at old.list.entries ≡ None → new.list.entries ≡ take_at at old.list.entries → length (in_order (lists_of (set hs i new))) ≡ length (in_order (lists_of hs))
  length-in_order-untaken absent take = omega (arith, length-in_order-place, ap (length {A = ErrorEntry}) take, ap (length {A = ErrorEntry}) (take_at-none at old.list.entries absent))

-- at first there is none
pub in_order-no_errors : (origins : List SiteName) → in_order (map no_errors origins) ≡ []
in_order-no_errors [] = refl
in_order-no_errors (origin ∷ origins) = in_order-no_errors origins

-- a list without values is empty, and only that
pub nothing_there : {X : Type 0} (xs : List X) → length xs ≡ 0 → xs ≡ []
nothing_there [] none = refl
nothing_there (x ∷ xs) none = absurd (omega (arith, none))

-- what stands in the first of two lists
pub slice_get-first : {X : Type 0} (xs ys : List X) (i : ℕ) → i < length xs → slice_get (xs ++ ys) i ≡ slice_get xs i
slice_get-first [] ys i below = absurd (omega (arith, below))
slice_get-first (x ∷ xs) ys zero below = refl
slice_get-first (x ∷ xs) ys (suc i) below = slice_get-first xs ys i (omega (arith, below))

-- and in the second
pub slice_get-second : {X : Type 0} (xs ys : List X) (i n : ℕ) → n ≡ length xs + i → slice_get (xs ++ ys) n ≡ slice_get ys i
slice_get-second [] ys i n is = let same : n ≡ i = omega (arith, is) in ap (slice_get ys) same
slice_get-second (x ∷ xs) ys i zero is = absurd (omega (arith, is))
slice_get-second (x ∷ xs) ys i (suc n) is = slice_get-second xs ys i n (omega (arith, is))

-- the errors from a list on, where the place is one of its own
pub in_order-here : (hs : List OriginErrorsState) (i left : ℕ) (h : OriginErrorsState) → i < length hs → h ≡ get_or hs i h → left < length h.list.entries → slice_get (in_order (lists_of (drop i hs))) left ≡ slice_get h.list.entries left
in_order-here hs i left h within is below = rw (drop_from_place hs i h within is) (slice_get-first h.list.entries (in_order (lists_of (drop (i + 1) hs))) left below)

-- and where it is behind them
pub in_order-behind : (hs : List OriginErrorsState) (i left : ℕ) (h : OriginErrorsState) → i < length hs → h ≡ get_or hs i h → length h.list.entries ≤ left
    → slice_get (in_order (lists_of (drop i hs))) left ≡ slice_get (in_order (lists_of (drop (i + 1) hs))) (left - length h.list.entries)
in_order-behind hs i left h within is behind =
    let place : left ≡ length h.list.entries + (left - length h.list.entries) = omega (arith, behind) in
    rw (drop_from_place hs i h within is) (slice_get-second h.list.entries (in_order (lists_of (drop (i + 1) hs))) (left - length h.list.entries) left place)
