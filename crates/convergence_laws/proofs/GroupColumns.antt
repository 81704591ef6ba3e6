-- The values of some columns of a row, and of a row with other values there.
use Rattle.std.proofs.Common.{◌≡◌, ◌≢◌, ℕ, zero, suc, ◌<◌, true, List, [], ◌∷◌, length, set, Some, refl, sym, ap, ◌∙◌, subst, inl, inr, arith}
use Rattle.std.specs.Prelude.{slice_get, Contains}
use Rattle.std.specs.List.{AllByRecursion, AllPairs}
use Rattle.std.specs.List.Sorted.{IsStrictlyIncreasing}
use Rattle.std.proofs.lemmas.Bool.Decides.{eqb_tells}
use Rattle.std.proofs.lemmas.List.{length-set}
use Rattle.std.proofs.lemmas.List.Kept.{AllPairs-from_increasing}
use Rattle.std.proofs.lemmas.List.Elements.{recursion_from_All}
use Rattle.rep_lists.proofs.Places.{found_at}
use Rattle.rep_values.specs.declared.value.Value.{Value}
use Rattle.rep_schema.specs.Tables.{Cells}
use Rattle.rep_schema.specs.Groups.{values_at, with_values}
use Rattle.rep_schema.specs.Kinds.{has_place}
use Rattle.rep_schema.specs.Shape.{ShareNone}
use Rattle.rep_laws.specs.GroupForms.{value_of}

-- each place is above those before it
abbrev pub Rise : List ℕ → Type 0
Rise [] = Unit {0}
Rise (p ∷ ps) = AllByRecursion (λ q. p < q) ps × Rise ps

pub Rise-increasing : (places : List ℕ) → IsStrictlyIncreasing places → Rise places
Rise-increasing places rising = go places (AllPairs-from_increasing places rising)
  where
    go : (ps : List ℕ) → AllPairs (λ x y. x < y) ps → Rise ps
    go [] pairs = tt
    go (p ∷ ps) pairs = (
      recursion_from_All (λ x. p < x) ps (λ i d within. pairs 0 (suc i) d (omega arith) (omega (arith, within))),
      go ps (λ i j d before_j within. pairs (suc i) (suc j) d (omega (arith, before_j)) (omega (arith, within))),
    )

slice_get-set_other : (xs : Cells) (p q : ℕ) (y : Value) → q ≢ p → slice_get (set xs p y) q ≡ slice_get xs q
slice_get-set_other [] p q y other = refl
slice_get-set_other (x ∷ xs) zero zero y other = absurd (other refl)
slice_get-set_other (x ∷ xs) zero (suc q) y other = refl
slice_get-set_other (x ∷ xs) (suc p) zero y other = refl
slice_get-set_other (x ∷ xs) (suc p) (suc q) y other = slice_get-set_other xs p q y (λ same. other (ap suc same))

slice_get-set_same : (xs : Cells) (p : ℕ) (y : Value) → p < length xs → slice_get (set xs p y) p ≡ Some y
slice_get-set_same [] p y within = absurd (omega (arith, within))
slice_get-set_same (x ∷ xs) zero y within = refl
slice_get-set_same (x ∷ xs) (suc p) y within = slice_get-set_same xs p y (omega (arith, within))

-- a write below the places
slice_get-with_values_below : (places : List ℕ) (values row : Cells) (p : ℕ) → AllByRecursion (λ q. p < q) places → slice_get (with_values places values row) p ≡ slice_get row p
slice_get-with_values_below [] values row p above = refl
slice_get-with_values_below (q ∷ qs) [] row p above = refl
slice_get-with_values_below (q ∷ qs) (v ∷ vs) row p above =
    slice_get-with_values_below qs vs (set row q v) p above.1 ∙ slice_get-set_other row q p v (omega (arith, above.0))

-- the values that were written are there
pub values_at-with_own : (places : List ℕ) (values row : Cells) → Rise places → AllByRecursion (λ p. p < length row) places → length values ≡ length places
    → values_at places (with_values places values row) ≡ values
values_at-with_own [] [] row rise within long = refl
values_at-with_own [] (v ∷ vs) row rise within long = absurd (omega (arith, long))
values_at-with_own (p ∷ ps) [] row rise within long = absurd (omega (arith, long))
values_at-with_own (p ∷ ps) (v ∷ vs) row rise within long =
    let here : slice_get (with_values ps vs (set row p v)) p ≡ Some v = slice_get-with_values_below ps vs (set row p v) p rise.0 ∙ slice_get-set_same row p v within.0 in
    let rest : values_at ps (with_values ps vs (set row p v)) ≡ vs = values_at-with_own ps vs (set row p v) rise.1 (wide ps within.1) (omega (arith, long)) in
    rw (here, rest) refl
  where
    wide : (qs : List ℕ) → AllByRecursion (λ q. q < length row) qs → AllByRecursion (λ q. q < length (set row p v)) qs
    wide qs below = subst (λ n. AllByRecursion (λ q. q < n) qs) (sym (length-set row p v)) below

values_at-set_other : (places : List ℕ) (xs : Cells) (p : ℕ) (y : Value) → ¬ Contains places p → values_at places (set xs p y) ≡ values_at places xs
values_at-set_other [] xs p y none = refl
values_at-set_other (q ∷ qs) xs p y none =
    let other : q ≢ p = λ same. none (0, omega arith, same) in
    let later = values_at-set_other qs xs p y (λ has. none (suc has.0, omega (arith, has.1), has.2)) in
    rw (slice_get-set_other xs p q y other, later) refl

-- writes at other places change nothing
pub values_at-with_other : (places : List ℕ) (values row : Cells) (others : List ℕ) → ShareNone places others → values_at others (with_values places values row) ≡ values_at others row
values_at-with_other [] values row others apart = refl
values_at-with_other (p ∷ ps) [] row others apart = refl
values_at-with_other (p ∷ ps) (v ∷ vs) row others apart =
    values_at-with_other ps vs (set row p v) others (λ x has. apart x (suc has.0, omega (arith, has.1), has.2))
    ∙ values_at-set_other others row p v (apart p (0, omega arith, refl))

-- the value of a column among a row's values is the row's
pub value_of-values_at : (places : List ℕ) (row : Cells) (column : ℕ) → AllByRecursion (λ p. p < length row) places → has_place places column ≡ true
    → value_of places (values_at places row) column ≡ slice_get row column
value_of-values_at [] row column within has = cc
value_of-values_at (p ∷ ps) row column within has =
    let found = found_at row p within.0 in
    rw found.1 (elim (eqb_tells p column) [
      | inl same ↦ rw (same.0) (sym found.1 ∙ ap (slice_get row) same.1)
      | inr other ↦ rw other.0 (value_of-values_at ps row column within.1 (rw other.0 at has))
    ])

-- as many values as places
pub length-values_at : {X : Type 0} (places : List ℕ) (row : List X) → AllByRecursion (λ p. p < length row) places → length (values_at places row) ≡ length places
length-values_at [] row within = refl
length-values_at (p ∷ ps) row within = let found = found_at row p within.0 in rw found.1 (ap suc (length-values_at ps row within.1))
