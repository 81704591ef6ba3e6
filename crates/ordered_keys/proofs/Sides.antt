-- A list that has one value in the middle, at places in front of it, there and behind it.
use Rattle.std.proofs.Common.{◌≡◌, ℕ, zero, suc, ◌-◌, ◌<◌, List, [], ◌∷◌, ◌++◌, length, take, drop, set, refl, ap, append_assoc, arith}
use Rattle.std.specs.List.{insert}

module _ {X : Type 0} (x : X) (right : List X) where
  pub take-behind : (left : List X) (before place : ℕ) → before ≡ length left → before < place → take place (left ++ x ∷ right) ≡ left ++ x ∷ take (place - before - 1) right
  take-behind [] before (suc place) long past = let e : suc place - before - 1 ≡ place = omega arith in rw e refl
  take-behind (y ∷ left) before (suc place) long past =
      let e : suc place - before - 1 ≡ place - length left - 1 = omega (arith, long) in
      rw e (ap (λ ys. y ∷ ys) (take-behind left (length left) place refl (omega (arith, long, past))))
  take-behind left before zero long past = absurd (omega (arith, past))

  pub drop-behind : (left : List X) (before place : ℕ) → before ≡ length left → before < place → drop place (left ++ x ∷ right) ≡ drop (place - before - 1) right
  drop-behind [] before (suc place) long past = let e : suc place - before - 1 ≡ place = omega arith in rw e refl
  drop-behind (y ∷ left) before (suc place) long past =
      let e : suc place - before - 1 ≡ place - length left - 1 = omega (arith, long) in
      rw e (drop-behind left (length left) place refl (omega (arith, long, past)))
  drop-behind left before zero long past = absurd (omega (arith, past))

  pub insert-behind : (left : List X) (before place : ℕ) (y : X) → before ≡ length left → before < place → insert (left ++ x ∷ right) place y ≡ left ++ x ∷ insert right (place - before - 1) y
  insert-behind left before place y long past =
      rw (take-behind left before place long past, drop-behind left before place long past)
      (append_assoc left (x ∷ take (place - before - 1) right) (y ∷ drop (place - before - 1) right))

  pub set-front : (left : List X) (before place : ℕ) (y : X) → before ≡ length left → place < before → set (left ++ x ∷ right) place y ≡ set left place y ++ x ∷ right
  set-front [] before place y long front = absurd (omega (arith, long, front))
  set-front (z ∷ left) before zero y long front = refl
  set-front (z ∷ left) before (suc place) y long front = ap (λ zs. z ∷ zs) (set-front left (length left) place y refl (omega (arith, long, front)))

  pub set-middle : (left : List X) (before : ℕ) (y : X) → before ≡ length left → set (left ++ x ∷ right) before y ≡ left ++ y ∷ right
  set-middle [] before y long = rw long refl
  set-middle (z ∷ left) before y long = rw long (ap (λ zs. z ∷ zs) (set-middle left (length left) y refl))

  pub set-behind : (left : List X) (before place : ℕ) (y : X) → before ≡ length left → before < place → set (left ++ x ∷ right) place y ≡ left ++ x ∷ set right (place - before - 1) y
  set-behind [] before (suc place) y long past = let e : suc place - before - 1 ≡ place = omega arith in rw e refl
  set-behind (z ∷ left) before (suc place) y long past =
      let e : suc place - before - 1 ≡ place - length left - 1 = omega (arith, long) in
      rw e (ap (λ zs. z ∷ zs) (set-behind left (length left) place y refl (omega (arith, long, past))))
  set-behind left before zero y long past = absurd (omega (arith, past))
