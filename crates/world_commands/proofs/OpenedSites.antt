-- The first ones of a list change, and the one that came behind them stays.
use Rattle.std.proofs.Common.{◌≡◌, ℕ, List, [], ◌∷◌, ◌++◌, length, map, take, drop, refl, ap}

module _ {X : Type 0} (change : X → X) (new : X) where
  pub changed_before : (xs : List X) (n : ℕ) → n ≡ length xs → map change (take n (xs ++ new ∷ [])) ++ drop n (xs ++ new ∷ []) ≡ map change xs ++ new ∷ []
  changed_before [] n is = rw is refl
  changed_before (x ∷ xs) n is = rw is (ap (λ (ys : List X). change x ∷ ys) (changed_before xs (length xs) refl))
