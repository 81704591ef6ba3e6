-- A row with other values at some places.
use Rattle.std.proofs.Common.{◌≡◌, ℕ, ◌<◌, List, [], ◌∷◌, length, get_or, set, Bool, true, false, refl, ◌∙◌, subst, inl, inr, arith}
use Rattle.std.specs.Prelude.{◌||◌, ◌==◌}
use Rattle.std.specs.List.{AllByRecursion, list_any}
use Rattle.std.proofs.lemmas.Bool.{eqb-true}
use Rattle.std.proofs.lemmas.Bool.Decides.{eqb_tells}
use Rattle.std.proofs.lemmas.List.{get_or-set_same, get_or-set_other, length-set}
use Rattle.std.proofs.lemmas.Option.{slice_get-get_or}
use Rattle.rep_values.specs.declared.value.Value.{Value}
use Rattle.rep_schema.specs.Tables.{Cells}
use Rattle.rep_schema.specs.Groups.{values_at, with_values}

-- it has as many values
pub length-with_values : (places : List ℕ) (values row : Cells) → length (with_values places values row) ≡ length row
length-with_values [] values row = refl
length-with_values (p ∷ ps) [] row = refl
length-with_values (p ∷ ps) (v ∷ vs) row = length-with_values ps vs (set row p v) ∙ length-set row p v

-- of two rows of one length, the one gets the other's values at some places
module _ (other : Cells) (d : Value) where
  values_at-first : (p : ℕ) (ps : List ℕ) → p < length other → values_at (p ∷ ps) other ≡ get_or other p d ∷ values_at ps other
  values_at-first p ps within = rw (slice_get-get_or other p d within)

  -- a write of the other's value keeps what is the same
  same_after_set : (row : Cells) (p k : ℕ) → p < length row → get_or row k d ≡ get_or other k d → get_or (set row p (get_or other p d)) k d ≡ get_or other k d
  same_after_set row p k within same = elim (eqb_tells k p) [
    | inl here ↦ rw here.1 (get_or-set_same row p (get_or other p d) d within)
    | inr apart ↦ get_or-set_other row p k (get_or other p d) d apart.1 ∙ same
  ]

  -- where the rows are the same they stay so
  pub with_values_keep : (places : List ℕ) (row : Cells) (k : ℕ) → length row ≡ length other → AllByRecursion (λ p. p < length other) places → get_or row k d ≡ get_or other k d
      → get_or (with_values places (values_at places other) row) k d ≡ get_or other k d
  with_values_keep [] row k long below same = same
  with_values_keep (p ∷ ps) row k long below same =
      rw (values_at-first p ps below.0)
      (with_values_keep ps (set row p (get_or other p d)) k (length-set row p (get_or other p d) ∙ long) below.1 (same_after_set row p k (omega (arith, below.0, long)) same))

  -- and at each of the places they become so
  pub with_values_put : (places : List ℕ) (row : Cells) (k : ℕ) → length row ≡ length other → AllByRecursion (λ p. p < length other) places → list_any (λ c. c == k) places ≡ true
      → get_or (with_values places (values_at places other) row) k d ≡ get_or other k d
  with_values_put [] row k long below listed = cc
  with_values_put (p ∷ ps) row k long below listed =
      rw (values_at-first p ps below.0) (go (p == k) refl listed (with_values_put ps (set row p (get_or other p d)) k longer below.1))
    where
      longer : length (set row p (get_or other p d)) ≡ length other
      longer = length-set row p (get_or other p d) ∙ long

      go : (b : Bool) → (p == k) ≡ b → (b || list_any (λ c. c == k) ps) ≡ true
          → (list_any (λ c. c == k) ps ≡ true → get_or (with_values ps (values_at ps other) (set row p (get_or other p d))) k d ≡ get_or other k d)
          → get_or (with_values ps (values_at ps other) (set row p (get_or other p d))) k d ≡ get_or other k d
      go true here listed later =
          let is : p ≡ k = eqb-true p k here in
          let written : get_or (set row p (get_or other p d)) k d ≡ get_or other k d = rw is (get_or-set_same row k (get_or other k d) d (omega (arith, below.0, long, is))) in
          with_values_keep ps (set row p (get_or other p d)) k longer below.1 written
      go false here listed later = later listed

  -- rows with the same values at some places have the same at each of them
  pub same_from_values_at : (places : List ℕ) (row : Cells) (k : ℕ) → length row ≡ length other → AllByRecursion (λ p. p < length other) places → list_any (λ c. c == k) places ≡ true
      → values_at places row ≡ values_at places other → get_or row k d ≡ get_or other k d
  same_from_values_at [] row k long below listed same = cc
  same_from_values_at (p ∷ ps) row k long below listed same =
      let both = rw (slice_get-get_or row p d (omega (arith, below.0, long)), slice_get-get_or other p d below.0) at same in
      let first : get_or row p d ≡ get_or other p d = cc in
      let rest : values_at ps row ≡ values_at ps other = cc in
      go (p == k) refl listed first (λ later. same_from_values_at ps row k long below.1 later rest)
    where
      go : (b : Bool) → (p == k) ≡ b → (b || list_any (λ c. c == k) ps) ≡ true → get_or row p d ≡ get_or other p d
          → (list_any (λ c. c == k) ps ≡ true → get_or row k d ≡ get_or other k d) → get_or row k d ≡ get_or other k d
      go true here listed first later = let is : p ≡ k = eqb-true p k here in subst (λ n. get_or row n d ≡ get_or other n d) is first
      go false here listed first later = later listed
