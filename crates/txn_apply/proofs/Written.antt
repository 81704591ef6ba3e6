-- Values that are written into a row place by place.
use Rattle.std.proofs.Common.{◌≡◌, ℕ, ◌+◌, ◌<◌, ◌≤◌, List, [], ◌∷◌, length, get_or, set, drop, min, refl, pos, arith}
use Rattle.std.specs.List.{AllByRecursion}
use Rattle.std.proofs.lemmas.List.{drop_more, length-drop, set-get_or}
use Rattle.std.proofs.lemmas.Option.{slice_get-get_or}
use Rattle.rep_values.specs.declared.value.Value.{Value}
use Rattle.rep_values.specs.declared.value.Value.TheVariants.{Num}
use Rattle.rep_schema.specs.Tables.{Cells}
use Rattle.rep_schema.specs.Groups.{values_at, with_values}

-- one more value
pub with_values-more : (places : List ℕ) (values row : Cells) (i p : ℕ) (v : Value) → i < length places → i < length values
    → p ≡ get_or places i p → v ≡ get_or values i v → with_values (drop i places) (drop i values) row ≡ with_values (drop (i + 1) places) (drop (i + 1) values) (set row p v)
with_values-more places values row i p v in_places in_values place value =
    rw (drop_more places i p in_places, drop_more values i v in_values, ← place, ← value) refl

-- no value is left
pub with_values-end : (places : List ℕ) (values row : Cells) (i : ℕ) → min (length places) (length values) ≤ i → with_values (drop i places) (drop i values) row ≡ row
with_values-end places values row i past = go (drop i places) (drop i values) (length-drop-either)
  where
    length-drop-either : min (length (drop i places)) (length (drop i values)) ≡ 0
    length-drop-either = rw (length-drop i places, length-drop i values) (omega (arith, past))

    go : (ps : List ℕ) (vs : Cells) → min (length ps) (length vs) ≡ 0 → with_values ps vs row ≡ row
    go [] vs none = refl
    go (p ∷ ps) [] none = refl
    go (p ∷ ps) (v ∷ vs) none = absurd (omega (arith, none))

-- a row's own values
pub with_values-own : (places : List ℕ) (row : Cells) → AllByRecursion (λ place. place < length row) places → with_values places (values_at places row) row ≡ row
with_values-own [] row below = refl
with_values-own (p ∷ ps) row below = rw (slice_get-get_or row p (Num (pos 0)) below.0, set-get_or row p (Num (pos 0))) (with_values-own ps row below.1)
