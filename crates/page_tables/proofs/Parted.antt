-- Lists whose values stand before a place, at it and behind it, in this order.
use Rattle.std.proofs.Common.{◌≡◌, ◌≢◌, ℕ, zero, suc, ◌+◌, ◌<◌, List, [], ◌∷◌, ◌++◌, length, get_or, refl, sym, ap, ◌∙◌, subst, arith}
use Rattle.std.specs.List.{AllByRecursion, AllWithin, HoldsAt}
use Rattle.std.specs.Cmp.{IsTotalOrder}
use Rattle.std.specs.Ordering.{ordering_reverse}
use Rattle.std.specs.declared.cmp.Ordering.{Ordering}
use Rattle.std.specs.declared.cmp.Ordering.TheVariants.{Less, Equal, Greater}
use Rattle.std.proofs.lemmas.List.Elements.{All-from_recursion, AllWithin-more}
use Rattle.std.proofs.lemmas.Option.{get_or_from_slice_get, slice_get-get_or}
use Rattle.rep_lists.specs.Rising.{IsThere}
use Rattle.rep_lists.specs.RisingLaws.{at_key, RisesBy}
use Rattle.rep_lists.proofs.Each.{each_then}
use Rattle.page_tables.specs.Pages.{IsParted}

-- parts of lists
module _ {X : Type 0} (P : X → Type 0) where
  pub all_right : (xs ys : List X) → AllByRecursion P (xs ++ ys) → AllByRecursion P ys
  all_right [] ys all = all
  all_right (x ∷ xs) ys all = all_right xs ys all.1

  pub all_left : (xs ys : List X) → AllByRecursion P (xs ++ ys) → AllByRecursion P xs
  all_left [] ys all = tt
  all_left (x ∷ xs) ys all = (all.0, all_left xs ys all.1)

-- what is so of a value that is read at a place, by whatever default
holds_at : {X : Type 0} (P : X → Type 0) (xs : List X) (i : ℕ) (d : X) → i < length xs → P (get_or xs i d) → HoldsAt P xs i
holds_at P xs i d within here e = subst P (sym (get_or_from_slice_get xs i (get_or xs i d) e (slice_get-get_or xs i d within))) here

module _ {X : Type 0} (at : X → Ordering) where
  pub parted_right : (xs ys : List X) → IsParted at (xs ++ ys) → IsParted at ys
  parted_right [] ys parted = parted
  parted_right (x ∷ xs) ys parted = parted_right xs ys parted.1

  pub parted_left : (xs ys : List X) → IsParted at (xs ++ ys) → IsParted at xs
  parted_left [] ys parted = tt
  parted_left (x ∷ xs) ys parted = (λ past. all_left (λ y. at y ≡ Greater) xs ys (parted.0 past), parted_left xs ys parted.1)

  -- what is in front of a value that isn't behind the place is before it
  pub all_before : (xs : List X) (z : X) (ys : List X) → at z ≢ Greater → IsParted at (xs ++ z ∷ ys) → AllByRecursion (λ x. at x ≡ Less) xs
  all_before [] z ys past parted = tt
  all_before (x ∷ xs) z ys past parted = (go (at x) refl, all_before xs z ys past parted.1)
    where
      behind : at x ≢ Less → at z ≡ Greater
      behind other = (all_right (λ y. at y ≡ Greater) xs (z ∷ ys) (parted.0 other)).0

      go : (o : Ordering) → at x ≡ o → at x ≡ Less
      go Less e = e
      go Equal e = absurd (past (behind (λ less. cc)))
      go Greater e = absurd (past (behind (λ less. cc)))

  -- and so, place by place
  before_here : (xs : List X) (i : ℕ) (d : X) → i < length xs → at (get_or xs i d) ≢ Greater → IsParted at xs → AllWithin (λ x. at x ≡ Less) xs 0 i
  before_here [] i d within past parted j e low lt = absurd (omega (arith, within))
  before_here (x ∷ xs) zero d within past parted j e low lt = absurd (omega (arith, lt))
  before_here (x ∷ xs) (suc i) d within past parted zero e low lt = go (at x) refl
    where
      behind : at x ≢ Less → at (get_or xs i d) ≡ Greater
      behind other = All-from_recursion (λ y. at y ≡ Greater) xs (parted.0 other) i d (omega (arith, within))

      go : (o : Ordering) → at x ≡ o → at x ≡ Less
      go Less is = is
      go Equal is = absurd (past (behind (λ less. cc)))
      go Greater is = absurd (past (behind (λ less. cc)))
  before_here (x ∷ xs) (suc i) d within past parted (suc j) e low lt = before_here xs i d (omega (arith, within)) past parted.1 j e (omega arith) (omega (arith, lt))

  -- up to a value before the place, all are before it
  pub upto_less : (xs : List X) (i : ℕ) (d : X) → i < length xs → at (get_or xs i d) ≡ Less → IsParted at xs → AllWithin (λ x. at x ≡ Less) xs 0 (i + 1)
  upto_less xs i d within here parted =
      AllWithin-more (λ x. at x ≡ Less) xs 0 i (before_here xs i d within (λ greater. cc) parted) (holds_at (λ x. at x ≡ Less) xs i d within here)

  -- a value at the place
  pub stands_there : (xs : List X) (i : ℕ) (d : X) → i < length xs → at (get_or xs i d) ≡ Equal → IsParted at xs → IsThere at xs i
  stands_there xs i d within here parted = record {
    in_range = within;
    here = holds_at (λ x. at x ≡ Equal) xs i d within here;
    before = before_here xs i d within (λ greater. cc) parted;
  }

  -- from a value behind the place on, all are behind it
  pub from_greater : (xs : List X) (i : ℕ) (d : X) → i < length xs → at (get_or xs i d) ≡ Greater → IsParted at xs → AllWithin (λ x. at x ≡ Greater) xs i (length xs)
  from_greater [] i d within here parted j e low lt = absurd (omega (arith, within))
  from_greater (x ∷ xs) zero d within here parted zero e low lt = here
  from_greater (x ∷ xs) zero d within here parted (suc j) e low lt = All-from_recursion (λ y. at y ≡ Greater) xs (parted.0 (λ less. cc)) j e (omega (arith, lt))
  from_greater (x ∷ xs) (suc i) d within here parted zero e low lt = absurd (omega (arith, low))
  from_greater (x ∷ xs) (suc i) d within here parted (suc j) e low lt = from_greater xs i d (omega (arith, within)) here parted.1 j e (omega (arith, low)) (omega (arith, lt))

-- a list in rising order is parted at each key
module _ {X K : Type 0} (key : X → K) (R : K → K → Ordering) (total : IsTotalOrder R) (k : K) where
  above_key : (x z : X) → R (key x) k ≢ Less → R (key x) (key z) ≡ Less → R (key z) k ≡ Greater
  above_key x z past below = go (R (key x) k) refl
    where
      turned : R k (key z) ≡ Less → R (key z) k ≡ Greater
      turned less = total.antisymm (key z) k ∙ ap ordering_reverse less

      go : (o : Ordering) → R (key x) k ≡ o → R (key z) k ≡ Greater
      go Less e = absurd (past e)
      go Equal e = turned (sym (total.congr (key x) k (key z) e) ∙ below)
      go Greater e = turned (total.trans k (key x) (key z) (total.antisymm k (key x) ∙ ap ordering_reverse e) below)

  pub parted_rising : (xs : List X) → RisesBy key R xs → IsParted (at_key key R k) xs
  parted_rising [] rising = tt
  parted_rising (x ∷ xs) rising = (
    λ past. each_then (λ y. R (key x) (key y) ≡ Less) (λ y. R (key y) k ≡ Greater) (λ y below. above_key x y past below) xs rising.0,
    parted_rising xs rising.1,
  )
