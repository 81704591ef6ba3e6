-- Lists of what has a name: one more at the end, or one changed at its place.
use Rattle.std.proofs.Common.{◌≡◌, ◌≢◌, ℕ, zero, suc, ◌<◌, Bool, true, false, cond, List, [], ◌∷◌, ◌++◌, length, get_or, Some, None, refl, sym, ap, subst, ◌∙◌, inl, inr, arith}
use Rattle.std.specs.Prelude.{map, Any}
use Rattle.std.specs.Bool.{Decides}
use Rattle.std.specs.Cmp.{unsigned_Decides}
use Rattle.std.specs.List.{All, AllPairs, find, list_any, count_by, sum}
use Rattle.std.proofs.lemmas.Bool.{both_ways, false_from_ne_true, cases_order}
use Rattle.std.proofs.lemmas.List.{map_push, get_or-map, get_or_default, length-map}
use Rattle.std.proofs.lemmas.List.Elements.{All-nil, All-cons, All-head, All-tail, All-map}
use Rattle.std.proofs.lemmas.List.Folds.{list_any_at}
use Rattle.std.proofs.lemmas.List.Quantifiers.{all_pairs_push}
use Rattle.std.proofs.lemmas.List.Sums.{sum-map}
use Rattle.std.proofs.lemmas.Slice.Eq.{slice_eq-Decides}
use Rattle.rep_values.specs.Name.{same_bytes}
use Rattle.rep_schema.specs.Shape.{AreDistinct}
use Rattle.rep_declare.specs.Additions.{with_changed}

-- names that pass the test are the same
pub same_bytes-Decides : (a b : List ℕ) → Decides (same_bytes a b) (a ≡ b)
same_bytes-Decides a b = slice_eq-Decides unsigned_Decides a b (same_bytes a b) refl

-- such names are the same
pub same_bytes-true : (a b : List ℕ) → same_bytes a b ≡ true → a ≡ b
same_bytes-true a b is = (same_bytes-Decides a b).0 is

-- names that fail it differ
pub same_bytes-false : (a b : List ℕ) → same_bytes a b ≡ false → a ≢ b
same_bytes-false a b other same = both_ways _ other ((same_bytes-Decides a b).1 same)

-- a name passes it beside itself
pub same_bytes-same : (a : List ℕ) → same_bytes a a ≡ true
same_bytes-same a = (same_bytes-Decides a a).1 refl

-- where none is found, none passes
pub find-None : {X : Type 0} (test : X → Bool) (xs : List X) → find test xs ≡ None → All (λ x. test x ≡ false) xs
find-None test [] none = All-nil (λ x. test x ≡ false)
find-None test (x ∷ xs) none = at (test x) refl none (find-None test xs)
  where
    at : (b : Bool) → test x ≡ b → cond b (Some x) (find test xs) ≡ None → (find test xs ≡ None → All (λ x. test x ≡ false) xs) → All (λ x. test x ≡ false) (x ∷ xs)
    at true is none later = cc
    at false is none later = All-cons (λ x. test x ≡ false) x xs is (later none)

-- where the test finds none, none passes
pub list_any-false : {X : Type 0} (test : X → Bool) (xs : List X) → list_any test xs ≡ false → All (λ x. test x ≡ false) xs
list_any-false test xs none = λ k d within. false_from_ne_true (test (get_or xs k d)) (λ is. both_ways _ none (list_any_at test xs k d within is))

-- one more value, which no other has
pub AreDistinct-push : {X Y : Type 0} (f : X → Y) (xs : List X) (x : X) → AreDistinct (map f xs) → All (λ y. f y ≢ f x) xs → AreDistinct (map f (xs ++ x ∷ []))
AreDistinct-push f xs x distinct other =
    rw (map_push f xs x) (all_pairs_push (λ a b. a ≢ b) (map f xs) (f x) distinct (All-map (λ a. a ≢ f x) f xs other))

-- places of one value are one
pub place-AreDistinct : {X Y : Type 0} (f : X → Y) (xs : List X) (i j : ℕ) (d : X) → AreDistinct (map f xs) → i < length xs → j < length xs
    → f (get_or xs i d) ≡ f (get_or xs j d) → i ≡ j
place-AreDistinct f xs i j d distinct in_i in_j same =
    let counted = length-map xs f in
    let at_i : get_or (map f xs) i (f d) ≡ f (get_or xs i d) = get_or-map f xs i d (f d) in_i in
    let at_j : get_or (map f xs) j (f d) ≡ f (get_or xs j d) = get_or-map f xs j d (f d) in_j in
    let one : get_or (map f xs) i (f d) ≡ get_or (map f xs) j (f d) = at_i ∙ same ∙ sym at_j in
    elim (cases_order i j) [
      | inl is ↦ is
      | inr (inl below) ↦ absurd (distinct i j (f d) below (omega (arith, in_j, counted)) one)
      | inr (inr above) ↦ absurd (distinct j i (f d) above (omega (arith, in_i, counted)) (sym one))
    ]

-- what holds of each two values of f holds of each two
pub AllPairs-from_map : {X Y : Type 0} (R : Y → Y → Type 0) (f : X → Y) (xs : List X) → AllPairs R (map f xs) → AllPairs (λ x y. R (f x) (f y)) xs
AllPairs-from_map R f xs all = λ i j d below within.
    let counted = length-map xs f in
    let at_i : get_or (map f xs) i (f d) ≡ f (get_or xs i d) = get_or-map f xs i d (f d) (omega (arith, below, within)) in
    let at_j : get_or (map f xs) j (f d) ≡ f (get_or xs j d) = get_or-map f xs j d (f d) within in
    rw (at_i, at_j) at (all i j (f d) below (omega (arith, within, counted)))

-- and the other way round
pub AllPairs-map : {X Y : Type 0} (R : Y → Y → Type 0) (f : X → Y) (xs : List X) → AllPairs (λ x y. R (f x) (f y)) xs → AllPairs R (map f xs)
AllPairs-map {X} {Y} R f [] all = λ i j d below within. absurd (omega (arith, within))
AllPairs-map {X} {Y} R f (x ∷ xs) all = λ i j d below within.
    let counted = length-map (x ∷ xs) f in
    let in_j : j < length (x ∷ xs) = omega (arith, within, counted) in
    let at_i : get_or (map f (x ∷ xs)) i d ≡ f (get_or (x ∷ xs) i x) = get_or-map f (x ∷ xs) i x d (omega (arith, below, in_j)) in
    let at_j : get_or (map f (x ∷ xs)) j d ≡ f (get_or (x ∷ xs) j x) = get_or-map f (x ∷ xs) j x d in_j in
    rw (at_i, at_j) (all i j x below in_j)

module _ {X : Type 0} (test : X → Bool) (change : X → X) where
  -- what the change keeps stays
  pub map-with_changed : {Y : Type 0} (f : X → Y) → ((x : X) → f (change x) ≡ f x) → (xs : List X) → map f (with_changed test change xs) ≡ map f xs
  map-with_changed {Y} f keeps [] = refl
  map-with_changed {Y} f keeps (x ∷ xs) = at (test x) (map-with_changed f keeps xs)
    where
      at : (b : Bool) → map f (with_changed test change xs) ≡ map f xs → map f (cond b (change x ∷ xs) (x ∷ with_changed test change xs)) ≡ f x ∷ map f xs
      at true later = ap (λ y. y ∷ map f xs) (keeps x)
      at false later = ap (λ ys. f x ∷ ys) later

  -- as many stay
  pub length-with_changed : (xs : List X) → length (with_changed test change xs) ≡ length xs
  length-with_changed xs =
      sym (length-map (with_changed test change xs) (λ x. tt {0})) ∙ ap length (map-with_changed (λ x. tt {0}) (λ x. refl) xs) ∙ length-map xs (λ x. tt {0})

  -- and as many that pass a test that the change keeps
  pub count_by-with_changed : (p : X → Bool) → ((x : X) → p (change x) ≡ p x) → (xs : List X) → count_by p (with_changed test change xs) ≡ count_by p xs
  count_by-with_changed p keeps xs =
      let one : X → ℕ = λ x. cond (p x) 1 0 in
      sym (sum-map one (with_changed test change xs)) ∙ ap sum (map-with_changed one (λ x. ap (λ b. cond b 1 0) (keeps x)) xs) ∙ sum-map one xs

  -- what holds of each, and after the change of the one that is found, still does
  pub All-with_changed : (P : X → Type 0) (xs : List X) → All P xs → ((x : X) → find test xs ≡ Some x → P x → P (change x)) → All P (with_changed test change xs)
  All-with_changed P [] all changed = all
  All-with_changed P (x ∷ xs) all changed = at (test x) changed (All-with_changed P xs (All-tail P x xs all))
    where
      at : (b : Bool) → ((y : X) → cond b (Some x) (find test xs) ≡ Some y → P y → P (change y))
          → (((y : X) → find test xs ≡ Some y → P y → P (change y)) → All P (with_changed test change xs)) → All P (cond b (change x ∷ xs) (x ∷ with_changed test change xs))
      at true changed later = All-cons P (change x) xs (changed x refl (All-head P x xs all)) (All-tail P x xs all)
      at false changed later = All-cons P x (with_changed test change xs) (All-head P x xs all) (later changed)

  -- one that is there stays there, where the change keeps what holds of it
  pub Any-with_changed : (P : X → Type 0) → ((x : X) → P x → P (change x)) → (xs : List X) → Any P xs → Any P (with_changed test change xs)
  Any-with_changed P keeps xs (k, x, within, is, holds) =
      let counted = length-with_changed xs in (
        k,
        get_or (with_changed test change xs) k x,
        omega (arith, within, counted),
        get_or_default (with_changed test change xs) k (get_or (with_changed test change xs) k x) x (omega (arith, within, counted)),
        at_place xs k x within (subst P (sym is) holds),
      )
    where
      at_place : (ys : List X) (j : ℕ) (d : X) → j < length ys → P (get_or ys j d) → P (get_or (with_changed test change ys) j d)
      at_place [] j d within holds = holds
      at_place (y ∷ ys) zero d within holds = first (test y) holds
        where
          first : (b : Bool) → P y → P (get_or (cond b (change y ∷ ys) (y ∷ with_changed test change ys)) 0 d)
          first true holds = keeps y holds
          first false holds = holds
      at_place (y ∷ ys) (suc j) d within holds = next (test y) holds (at_place ys j d (omega (arith, within)))
        where
          next : (b : Bool) → P (get_or ys j d) → (P (get_or ys j d) → P (get_or (with_changed test change ys) j d)) → P (get_or (cond b (change y ∷ ys) (y ∷ with_changed test change ys)) (suc j) d)
          next true holds later = holds
          next false holds later = later holds

  -- values that the change keeps stay distinct
  pub AreDistinct-with_changed : {Y : Type 0} (f : X → Y) → ((x : X) → f (change x) ≡ f x) → (xs : List X) → AreDistinct (map f xs) → AreDistinct (map f (with_changed test change xs))
  AreDistinct-with_changed {Y} f keeps xs distinct = rw (map-with_changed f keeps xs) distinct

  -- and so does what holds of each two of them
  pub AllPairs-with_changed : {Y : Type 0} (R : Y → Y → Type 0) (f : X → Y) → ((x : X) → f (change x) ≡ f x) → (xs : List X) → AllPairs (λ x y. R (f x) (f y)) xs
      → AllPairs (λ x y. R (f x) (f y)) (with_changed test change xs)
  AllPairs-with_changed {Y} R f keeps xs all =
      AllPairs-from_map R f (with_changed test change xs) (rw (map-with_changed f keeps xs) (AllPairs-map R f xs all))
