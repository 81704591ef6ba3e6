-- A list whose values are changed one after another, each in its place.
use Rattle.std.proofs.Common.{◌≡◌, ℕ, zero, suc, ◌+◌, ◌<◌, List, [], ◌∷◌, ◌++◌, length, get_or, set, map, take, drop, refl, ap, arith, add-one}

module _ {X : Type 0} (f : X → X) where
  -- what stands at the next place wasn't changed
  pub unchanged_yet : (xs : List X) (i : ℕ) (d : X) → i < length xs → get_or (map f (take i xs) ++ drop i xs) i d ≡ get_or xs i d
  unchanged_yet [] i d below = absurd (omega (arith, below))
  unchanged_yet (x ∷ xs) zero d below = refl
  unchanged_yet (x ∷ xs) (suc i) d below = unchanged_yet xs i d (omega (arith, below))

  changed_suc : (xs : List X) (i : ℕ) (d : X) → i < length xs → set (map f (take i xs) ++ drop i xs) i (f (get_or xs i d)) ≡ map f (take (suc i) xs) ++ drop (suc i) xs
  changed_suc [] i d below = absurd (omega (arith, below))
  changed_suc (x ∷ xs) zero d below = refl
  changed_suc (x ∷ xs) (suc i) d below = ap (λ t. f x ∷ t) (changed_suc xs i d (omega (arith, below)))

  -- it is changed, and the places up to it are done
  pub changed_more : (xs now : List X) (i : ℕ) (d y : X) → i < length xs → now ≡ map f (take i xs) ++ drop i xs → y ≡ f (get_or now i d) → set now i y ≡ map f (take (i + 1) xs) ++ drop (i + 1) xs
  changed_more xs now i d y below now_is y_is = rw (y_is, now_is, unchanged_yet xs i d below, add-one) (changed_suc xs i d below)

-- a vector after its slice was written, as long as before
pub written_back : {X : Type 0} (xs ys : List X) (n : ℕ) → length xs ≡ n → take n (xs ++ ys) ≡ xs
written_back {X = X} xs ys n is = rw (← is) (seam xs)
  where
    seam : (zs : List X) → take (length zs) (zs ++ ys) ≡ zs
    seam [] = refl
    seam (z ∷ zs) = ap (λ t. z ∷ t) (seam zs)
