-- Lists in rising order, read and changed by where a value stands: `at x` says whether x stands before, at or behind the place.
use Rattle.std.specs.Prelude.{◌≡◌, ℕ, ◌<◌, ◌≤◌, List, [], ◌∷◌, length, Option, Some, None}
use Rattle.std.specs.List.{AllByRecursion, AllWithin, HoldsAt}
use Rattle.std.specs.declared.cmp.Ordering.{Ordering}
use Rattle.std.specs.declared.cmp.Ordering.TheVariants.{Less, Equal, Greater}

-- each value is below all later ones
abbrev pub IsRising : {X : Type 0} → (X → X → Ordering) → List X → Type 0
IsRising cmp [] = Unit {0}
IsRising cmp (x ∷ xs) = AllByRecursion (λ y. cmp x y ≡ Less) xs × IsRising cmp xs

abbrev pub found_here : {X : Type 0} → Ordering → X → Option X → Option X
found_here Less x rest = rest
found_here Equal x rest = Some x
found_here Greater x rest = None

-- the value there, if there is one
abbrev pub find_at : {X : Type 0} → (X → Ordering) → List X → Option X
find_at at [] = None
find_at at (x ∷ xs) = found_here (at x) x (find_at at xs)

abbrev pub put_here : {X : Type 0} → Ordering → X → X → List X → List X → List X
put_here Less y x xs rest = x ∷ rest
put_here Equal y x xs rest = y ∷ xs
put_here Greater y x xs rest = y ∷ x ∷ xs

-- the list with y there, in place of the value that was there
abbrev pub put_at : {X : Type 0} → (X → Ordering) → X → List X → List X
put_at at y [] = y ∷ []
put_at at y (x ∷ xs) = put_here (at x) y x xs (put_at at y xs)

abbrev pub taken_here : {X : Type 0} → Ordering → X → List X → List X → List X
taken_here Less x xs rest = x ∷ rest
taken_here Equal x xs rest = xs
taken_here Greater x xs rest = x ∷ xs

-- the list without the value there
abbrev pub take_at : {X : Type 0} → (X → Ordering) → List X → List X
take_at at [] = []
take_at at (x ∷ xs) = taken_here (at x) x xs (take_at at xs)

-- the value stands at place i
pub record IsThere {X : Type 0} (at : X → Ordering) (xs : List X) (i : ℕ) : Type 0 where
  pub in_range : i < length xs
  pub here : HoldsAt (λ x. at x ≡ Equal) xs i
  pub before : AllWithin (λ x. at x ≡ Less) xs 0 i

-- it isn't there, and would stand at place i
pub record IsGap {X : Type 0} (at : X → Ordering) (xs : List X) (i : ℕ) : Type 0 where
  pub in_range : i ≤ length xs
  pub before : AllWithin (λ x. at x ≡ Less) xs 0 i
  pub behind : AllWithin (λ x. at x ≡ Greater) xs i (length xs)
