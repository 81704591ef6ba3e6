-- A row's values at some places.
use Rattle.std.proofs.Common.{◌≡◌, ℕ, zero, suc, ◌+◌, ◌-◌, ◌<◌, ◌≤◌, List, [], ◌∷◌, ◌++◌, length, take, drop, get_or, Some, None, length-drop, refl, sym, ap, ◌∙◌, arith}
use Rattle.std.specs.Prelude.{Decides, Option, is_some, ◌↔◌, slice_get}
use Rattle.std.specs.List.{cons_option}
use Rattle.std.proofs.lemmas.List.{drop_more, drop_all, take_more}
use Rattle.std.proofs.lemmas.List.Elements.{filter_map-append}
use Rattle.std.specs.Cmp.Lexicographic.{pointwise}
use Rattle.std.proofs.lemmas.Slice.Eq.{slice_eq-Decides}
use Rattle.rep_lists.proofs.Places.{drop_from_found}
use Rattle.rep_values.specs.Equality.{value_eq, value_eq-Decides}
use Rattle.rep_values.specs.declared.value.Value.{Value}
use Rattle.rep_schema.specs.Tables.{Cells, picked}
use Rattle.rep_schema.specs.Groups.{values_at, are_same}

-- what stands at a place is the first value from there on
pub slice_get-drop : {X : Type 0} (xs : List X) (n : ℕ) → slice_get (drop n xs) 0 ≡ slice_get xs n
slice_get-drop xs zero = refl
slice_get-drop [] (suc n) = refl
slice_get-drop (x ∷ xs) (suc n) = slice_get-drop xs n

module _ {X : Type 0} (places : List ℕ) (row : List X) (i : ℕ) (within : i < length places) where
  -- one place more that the row has
  pub take-values_at_some : (v : X) → slice_get row (get_or places i 0) ≡ Some v → values_at (take (i + 1) places) row ≡ values_at (take i places) row ++ v ∷ []
  take-values_at_some v here = rw (take_more places i 0 within, filter_map-append (slice_get row) (take i places) (get_or places i 0 ∷ []), here)

  -- one that it hasn't
  pub take-values_at_none : slice_get row (get_or places i 0) ≡ None → values_at (take (i + 1) places) row ≡ values_at (take i places) row ++ []
  take-values_at_none here = rw (take_more places i 0 within, filter_map-append (slice_get row) (take i places) (get_or places i 0 ∷ []), here)

  -- the same, from the place on
  pub drop-values_at_some : (v : X) → slice_get row (get_or places i 0) ≡ Some v → values_at (drop i places) row ≡ v ∷ values_at (drop (i + 1) places) row
  drop-values_at_some v here = rw (drop_more places i 0 within, here)

  pub drop-values_at_none : slice_get row (get_or places i 0) ≡ None → values_at (drop i places) row ≡ values_at (drop (i + 1) places) row
  drop-values_at_none here = rw (drop_more places i 0 within, here)

-- comparing a row's values at some places with others, from a place on
module _ (places : List ℕ) (row values : Cells) (i read : ℕ) where
  module _ (v : Value) (within : i < length places) (here : slice_get row (get_or places i 0) ≡ Some v) where
    -- where all from here on are the same, this one is
    pub first_same : values_at (drop i places) row ≡ drop read values → slice_get values read ≡ Some v
    first_same same = sym (slice_get-drop values read) ∙ ap (λ xs. slice_get xs 0) (sym same ∙ drop-values_at_some places row i within v here)

    -- where this one is the same, those behind it decide
    pub rest_same : slice_get values read ≡ Some v
        → (values_at (drop i places) row ≡ drop read values) ↔ (values_at (drop (i + 1) places) row ≡ drop (read + 1) values)
    rest_same there = rw (drop-values_at_some places row i within v here, drop_from_found values read v there) (
      λ same. let rest : values_at (drop (i + 1) places) row ≡ drop (read + 1) values = cc in rest,
      λ rest. ap (λ xs. v ∷ xs) rest,
    )

  -- a place that the row hasn't makes no difference
  pub rest_same_none : i < length places → slice_get row (get_or places i 0) ≡ None
      → (values_at (drop i places) row ≡ drop read values) ↔ (values_at (drop (i + 1) places) row ≡ drop read values)
  rest_same_none within here = rw (drop-values_at_none places row i within here) (λ same. same, λ same. same)

  -- behind the last place all values are read
  pub rest_read : length places ≤ i → read ≤ length values → (values_at (drop i places) row ≡ drop read values) ↔ (read ≡ length values)
  rest_read ended fits = rw (drop_all i places ended) (
    λ same. let none : length values - read ≡ 0 = sym (length-drop read values) ∙ ap length (sym same) in omega arith,
    λ all. sym (drop_all read values (omega arith)),
  )

-- two rows of one length have a value at the same places
both_there : (p : ℕ) (a b : Cells) → length a ≡ length b → is_some (slice_get a p) ≡ is_some (slice_get b p)
both_there p [] [] long = refl
both_there p [] (y ∷ b) long = absurd (omega arith)
both_there p (x ∷ a) [] long = absurd (omega arith)
both_there zero (x ∷ a) (y ∷ b) long = refl
both_there (suc p) (x ∷ a) (y ∷ b) long = both_there p a b (omega arith)

-- two rows of one length have the same values at some places where they have the same at each place
pub picked-values_at : (places : List ℕ) (a b : Cells) → length a ≡ length b → (picked places a ≡ picked places b) ↔ (values_at places a ≡ values_at places b)
picked-values_at [] a b long = (λ same. refl, λ same. refl)
picked-values_at (p ∷ ps) a b long = go (slice_get a p) (slice_get b p) (both_there p a b long) (picked-values_at ps a b long)
  where
    go : (x y : Option Value) → is_some x ≡ is_some y → (picked ps a ≡ picked ps b) ↔ (values_at ps a ≡ values_at ps b)
        → (x ∷ picked ps a ≡ y ∷ picked ps b) ↔ (cons_option x (values_at ps a) ≡ cons_option y (values_at ps b))
    go None None both rest = (
      λ same. let later : picked ps a ≡ picked ps b = cc in rest.0 later,
      λ same. ap (λ xs. None ∷ xs) (rest.1 same),
    )
    go None (Some y) both rest = cc
    go (Some x) None both rest = cc
    go (Some x) (Some y) both rest = (
      λ same.
          let first : x ≡ y = cc in
          let later : picked ps a ≡ picked ps b = cc in
          rw first (ap (λ xs. y ∷ xs) (rest.0 later)),
      λ same.
          let first : x ≡ y = cc in
          let later : values_at ps a ≡ values_at ps b = cc in
          rw first (ap (λ xs. Some y ∷ xs) (rest.1 later)),
    )

-- the test whether values are the same
pub are_same-Decides : (a b : Cells) → Decides (are_same a b) (a ≡ b)
are_same-Decides a b = slice_eq-Decides value_eq-Decides a b (pointwise value_eq a b) refl
