-- Where a key stands among rising entries, by where it stands beside one in the middle.
use Rattle.std.proofs.Common.{◌≡◌, ℕ, zero, suc, ◌+◌, ◌<◌, ◌≤◌, List, [], ◌∷◌, ◌++◌, length, Result, Ok, Err, IfOk, IfErr, ap, ◌∙◌, length-append, arith}
use Rattle.std.specs.List.{AllByRecursion}
use Rattle.std.specs.Ordering.{ordering_reverse}
use Rattle.std.specs.declared.cmp.Ordering.{Ordering}
use Rattle.std.specs.declared.cmp.Ordering.TheVariants.{Less, Equal, Greater}
use Rattle.std.proofs.lemmas.List.{get_or_append_left}
use Rattle.rep_lists.specs.Rising.{IsRising, IsThere, IsGap}
use Rattle.rep_lists.proofs.Each.{each_at, each_then}
use Rattle.rep_values.specs.declared.value.Value.{Value}
use Rattle.rep_values.specs.Order.{key_cmp}
use Rattle.rep_values.specs.OrderLaws.{key_cmp_total, exact_keys}
use Rattle.ordered_keys.specs.Keys.{by_key, beside_key, place_behind}

-- the values on both sides of one among rising values
module _ {X : Type 0} (R : X → X → Ordering) (x : X) (right : List X) where
  all_left : (P : X → Type 0) (left : List X) → AllByRecursion P (left ++ x ∷ right) → AllByRecursion P left
  all_left P [] all = tt
  all_left P (y ∷ left) all = (all.0, all_left P left all.1)

  here_of_all : (P : X → Type 0) (left : List X) → AllByRecursion P (left ++ x ∷ right) → P x
  here_of_all P [] all = all.0
  here_of_all P (y ∷ left) all = here_of_all P left all.1

  pub left_rises : (left : List X) → IsRising R (left ++ x ∷ right) → IsRising R left
  left_rises [] rising = tt
  left_rises (y ∷ left) rising = (all_left (λ z. R y z ≡ Less) left rising.0, left_rises left rising.1)

  pub right_rises : (left : List X) → IsRising R (left ++ x ∷ right) → IsRising R right
  right_rises [] rising = rising.1
  right_rises (y ∷ left) rising = right_rises left rising.1

  left_below : (left : List X) → IsRising R (left ++ x ∷ right) → AllByRecursion (λ y. R y x ≡ Less) left
  left_below [] rising = tt
  left_below (y ∷ left) rising = (here_of_all (λ z. R y z ≡ Less) left rising.0, left_below left rising.1)

  right_above : (left : List X) → IsRising R (left ++ x ∷ right) → AllByRecursion (λ y. R x y ≡ Less) right
  right_above [] rising = rising.0
  right_above (y ∷ left) rising = right_above left rising.1

module _ {X : Type 0} (at : X → Ordering) where
  -- one more in front, which is less
  there-cons : (x : X) (xs : List X) (i : ℕ) → at x ≡ Less → IsThere at xs i → IsThere at (x ∷ xs) (suc i)
  there-cons x xs i less there = record { in_range = omega (arith, there.in_range); here = λ d. there.here d; before = before }
    where
      before : (k : ℕ) (d : X) → 0 ≤ k → k < suc i → at (Rattle.std.specs.Prelude.slice_index_or (x ∷ xs) k d) ≡ Less
      before zero d low lt = less
      before (suc k) d low lt = there.before k d (omega arith) (omega (arith, lt))

  gap-cons : (x : X) (xs : List X) (i : ℕ) → at x ≡ Less → IsGap at xs i → IsGap at (x ∷ xs) (suc i)
  gap-cons x xs i less gap = record { in_range = omega (arith, gap.in_range); before = before; behind = behind }
    where
      before : (k : ℕ) (d : X) → 0 ≤ k → k < suc i → at (Rattle.std.specs.Prelude.slice_index_or (x ∷ xs) k d) ≡ Less
      before zero d low lt = less
      before (suc k) d low lt = gap.before k d (omega arith) (omega (arith, lt))

      behind : (k : ℕ) (d : X) → suc i ≤ k → k < suc (length xs) → at (Rattle.std.specs.Prelude.slice_index_or (x ∷ xs) k d) ≡ Greater
      behind zero d low lt = absurd (omega (arith, low))
      behind (suc k) d low lt = gap.behind k d (omega (arith, low)) (omega (arith, lt))

  -- behind values that are all less
  there-behind : (front xs : List X) (i : ℕ) → AllByRecursion (λ y. at y ≡ Less) front → IsThere at xs i → IsThere at (front ++ xs) (length front + i)
  there-behind [] xs i less there = let e : 0 + i ≡ i = omega arith in rw e there
  there-behind (y ∷ front) xs i less there =
      let e : suc (length front) + i ≡ suc (length front + i) = omega arith in
      rw e (there-cons y (front ++ xs) (length front + i) less.0 (there-behind front xs i less.1 there))

  gap-behind : (front xs : List X) (i : ℕ) → AllByRecursion (λ y. at y ≡ Less) front → IsGap at xs i → IsGap at (front ++ xs) (length front + i)
  gap-behind [] xs i less gap = let e : 0 + i ≡ i = omega arith in rw e gap
  gap-behind (y ∷ front) xs i less gap =
      let e : suc (length front) + i ≡ suc (length front + i) = omega arith in
      rw e (gap-cons y (front ++ xs) (length front + i) less.0 (gap-behind front xs i less.1 gap))

  -- in front of any
  there-front : (xs back : List X) (i : ℕ) → IsThere at xs i → IsThere at (xs ++ back) i
  there-front xs back i there = record {
    in_range = omega (arith, there.in_range, length-append xs back);
    here = λ d. rw (get_or_append_left xs back d i there.in_range) (there.here d);
    before = λ k d low lt. rw (get_or_append_left xs back d k (omega (arith, lt, there.in_range))) (there.before k d low lt);
  }

  -- in front of values that are all greater
  gap-front : (xs back : List X) (i : ℕ) → AllByRecursion (λ y. at y ≡ Greater) back → IsGap at xs i → IsGap at (xs ++ back) i
  gap-front [] back i greater gap = record {
    in_range = omega (arith, gap.in_range);
    before = λ k d low lt. absurd (omega (arith, lt, gap.in_range));
    behind = λ k d low lt. each_at (λ y. at y ≡ Greater) back k d lt greater;
  }
  gap-front (x ∷ xs) back zero greater gap = record {
    in_range = omega arith;
    before = λ k d low lt. absurd (omega (arith, lt));
    behind = λ k d low lt. elim k as (λ n. n < suc (length (xs ++ back)) → at (Rattle.std.specs.Prelude.slice_index_or (x ∷ (xs ++ back)) n d) ≡ Greater) [
      | zero ↦ λ within. gap.behind 0 d (omega arith) (omega arith)
      | suc n ↦ λ within. (gap-front xs back zero greater (gap_tail gap)).behind n d (omega arith) (omega (arith, within))
    ] lt;
  }
    where
      gap_tail : IsGap at (x ∷ xs) zero → IsGap at xs zero
      gap_tail g = record {
        in_range = omega arith;
        before = λ k d low lt. absurd (omega (arith, lt));
        behind = λ k d low lt. g.behind (suc k) d (omega arith) (omega (arith, lt));
      }
  gap-front (x ∷ xs) back (suc i) greater gap = gap-cons x (xs ++ back) i (gap.before 0 x (omega arith) (omega arith)) (gap-front xs back i greater record {
    in_range = omega (arith, gap.in_range);
    before = λ k d low lt. gap.before (suc k) d (omega arith) (omega (arith, lt));
    behind = λ k d low lt. gap.behind (suc k) d (omega (arith, low)) (omega (arith, lt));
  })

module _ {E : Type 0} (key : E → List Value) (k : List Value) (x : E) (left right : List E) (rising : IsRising (by_key key) (left ++ x ∷ right)) where
  lower : key_cmp (key x) k ≡ Less → AllByRecursion (λ y. beside_key key k y ≡ Less) left
  lower less = each_then (λ y. by_key key y x ≡ Less) (λ y. beside_key key k y ≡ Less) (λ y below. key_cmp_total.trans (key y) (key x) k below less) left (left_below (by_key key) x right left rising)

  lower_than_here : key_cmp (key x) k ≡ Equal → AllByRecursion (λ y. beside_key key k y ≡ Less) left
  lower_than_here equal = rw (← exact_keys (key x) k equal) (left_below (by_key key) x right left rising)

  above : key_cmp (key x) k ≡ Greater → (y : E) → by_key key x y ≡ Less → beside_key key k y ≡ Greater
  above greater y below =
      let under : key_cmp k (key x) ≡ Less = key_cmp_total.antisymm k (key x) ∙ ap ordering_reverse greater in
      key_cmp_total.antisymm (key y) k ∙ ap ordering_reverse (key_cmp_total.trans k (key x) (key y) under below)

  higher : key_cmp (key x) k ≡ Greater → AllByRecursion (λ y. beside_key key k y ≡ Greater) (x ∷ right)
  higher greater = (greater, each_then (λ y. by_key key x y ≡ Less) (λ y. beside_key key k y ≡ Greater) (above greater) right (right_above (by_key key) x right left rising))

  pub found-right : key_cmp (key x) k ≡ Less → (r : Result ℕ ℕ) → IfOk r (IsThere (beside_key key k) right) → IfOk (place_behind (length left + 1) r) (IsThere (beside_key key k) (left ++ x ∷ right))
  found-right less (Ok i) there =
      let e : length left + 1 + i ≡ length left + suc i = omega arith in
      rw e (there-behind (beside_key key k) left (x ∷ right) (suc i) (lower less) (there-cons (beside_key key k) x right i less there))
  found-right less (Err i) there = tt

  pub absent-right : key_cmp (key x) k ≡ Less → (r : Result ℕ ℕ) → IfErr r (IsGap (beside_key key k) right) → IfErr (place_behind (length left + 1) r) (IsGap (beside_key key k) (left ++ x ∷ right))
  absent-right less (Ok i) gap = tt
  absent-right less (Err i) gap =
      let e : length left + 1 + i ≡ length left + suc i = omega arith in
      rw e (gap-behind (beside_key key k) left (x ∷ right) (suc i) (lower less) (gap-cons (beside_key key k) x right i less gap))

  pub found-here : key_cmp (key x) k ≡ Equal → IsThere (beside_key key k) (left ++ x ∷ right) (length left)
  found-here equal =
      let e : length left ≡ length left + 0 = omega arith in
      rw e (there-behind (beside_key key k) left (x ∷ right) 0 (lower_than_here equal) record { in_range = omega arith; here = λ d. equal; before = λ j d low lt. absurd (omega (arith, lt)) })

  pub found-left : (r : Result ℕ ℕ) → IfOk r (IsThere (beside_key key k) left) → IfOk r (IsThere (beside_key key k) (left ++ x ∷ right))
  found-left (Ok i) there = there-front (beside_key key k) left (x ∷ right) i there
  found-left (Err i) there = tt

  pub absent-left : key_cmp (key x) k ≡ Greater → (r : Result ℕ ℕ) → IfErr r (IsGap (beside_key key k) left) → IfErr r (IsGap (beside_key key k) (left ++ x ∷ right))
  absent-left greater (Ok i) gap = tt
  absent-left greater (Err i) gap = gap-front (beside_key key k) left (x ∷ right) i (higher greater) gap
