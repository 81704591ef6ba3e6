-- The one value that a row has at some places.
use Rattle.std.proofs.Common.{◌≡◌, ◌≢◌, ℕ, zero, suc, ◌<◌, List, [], ◌∷◌, length, get_or, Some, None, refl, arith}
use Rattle.std.specs.Prelude.{Option, slice_get}
use Rattle.std.specs.List.{AllByRecursion, cons_option}
use Rattle.rep_values.specs.declared.value.Value.{Value}
use Rattle.rep_schema.specs.Tables.{Cells}
use Rattle.rep_schema.specs.Groups.{values_at}
use Rattle.resolve_methods.specs.Decide.{only}

-- at one place it is the value there
pub only-one_place : (places : List ℕ) (row : Cells) → length places ≡ 1 → only (values_at places row) ≡ slice_get row (get_or places 0 0)
only-one_place [] row one = absurd (omega (arith, one))
only-one_place (p ∷ []) row one = go (slice_get row p)
  where
    go : (v : Option Value) → only (cons_option v []) ≡ v
    go None = refl
    go (Some v) = refl
only-one_place (p ∷ q ∷ ps) row one = absurd (omega (arith, one))

none_within : (row : Cells) (p : ℕ) → p < length row → slice_get row p ≡ None → ⊥
none_within [] p within gone = omega (arith, within)
none_within (v ∷ vs) zero within gone = cc
none_within (v ∷ vs) (suc p) within gone = none_within vs p (omega arith) gone

-- at none or several there is none
pub only-more_places : (places : List ℕ) (row : Cells) → AllByRecursion (λ p. p < length row) places → length places ≢ 1 → only (values_at places row) ≡ None
only-more_places [] row below many = refl
only-more_places (p ∷ []) row below many = absurd (omega (arith, many))
only-more_places (p ∷ q ∷ ps) row below many = go (slice_get row p) refl (slice_get row q) refl
  where
    go : (v : Option Value) → slice_get row p ≡ v → (w : Option Value) → slice_get row q ≡ w → only (cons_option v (cons_option w (values_at ps row))) ≡ None
    go None gone w there = absurd (none_within row p below.0 gone)
    go (Some v) there None gone = absurd (none_within row q below.1.0 gone)
    go (Some v) there (Some w) here = refl
