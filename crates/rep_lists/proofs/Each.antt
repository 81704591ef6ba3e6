-- What holds of each value of a list, after an edit of the list.
use Rattle.std.proofs.Common.{◌≡◌, ℕ, zero, suc, ◌<◌, List, [], ◌∷◌, ◌++◌, length, drop, get_or, set, Some, refl, arith}
use Rattle.std.specs.Prelude.{slice_get}
use Rattle.std.specs.List.{AllByRecursion}

module _ {X : Type 0} (P : X → Type 0) where
  -- of the value at a place
  pub each_at : (xs : List X) (i : ℕ) (d : X) → i < length xs → AllByRecursion P xs → P (get_or xs i d)
  each_at [] i d within all = absurd (omega arith)
  each_at (x ∷ xs) zero d within all = all.0
  each_at (x ∷ xs) (suc i) d within all = each_at xs i d (omega arith) all.1

  -- where one value is replaced by such a one
  pub each_set : (xs : List X) (i : ℕ) (y : X) → P y → AllByRecursion P xs → AllByRecursion P (set xs i y)
  each_set [] i y here all = tt
  each_set (x ∷ xs) zero y here all = (here, all.1)
  each_set (x ∷ xs) (suc i) y here all = (all.0, each_set xs i y here all.1)

  -- where such a one is added behind the others
  pub each_push : (xs : List X) (y : X) → AllByRecursion P xs → P y → AllByRecursion P (xs ++ y ∷ [])
  each_push [] y all here = (here, tt)
  each_push (x ∷ xs) y all here = (all.0, each_push xs y all.1 here)

  -- where the first ones are left out
  pub each_drop : (n : ℕ) (xs : List X) → AllByRecursion P xs → AllByRecursion P (drop n xs)
  each_drop zero xs all = all
  each_drop (suc n) [] all = tt
  each_drop (suc n) (x ∷ xs) all = each_drop n xs all.1

-- of each value follows what follows of one
pub each_then : {X : Type 0} (P Q : X → Type 0) → ((x : X) → P x → Q x) → (xs : List X) → AllByRecursion P xs → AllByRecursion Q xs
each_then P Q follows [] all = tt
each_then P Q follows (x ∷ xs) all = (follows x all.0, each_then P Q follows xs all.1)

-- a place within the list has a value of which it holds
pub each_found : {X : Type 0} (P : X → Type 0) (xs : List X) (i : ℕ) → i < length xs → AllByRecursion P xs → (x : X) × (slice_get xs i ≡ Some x) × P x
each_found P [] i within all = absurd (omega arith)
each_found P (x ∷ xs) zero within all = (x, refl, all.0)
each_found P (x ∷ xs) (suc i) within all = each_found P xs i (omega arith) all.1

pub all-append : {X : Type 0} (P : X → Type 0) (xs ys : List X) → AllByRecursion P xs → AllByRecursion P ys → AllByRecursion P (xs ++ ys)
all-append P [] ys left right = right
all-append P (x ∷ xs) ys left right = (left.0, all-append P xs ys left.1 right)
