-- The first element that passes a test, changed at its place.
use Rattle.std.proofs.Common.{◌≡◌, ℕ, suc, ◌+◌, ◌<◌, ◌≤◌, Bool, true, false, cond, not, List, [], ◌∷◌, length, Option, Some, None, get_or, refl, sym, ap, subst, ◌∙◌, arith}
use Rattle.std.specs.Prelude.{slice_set, is_some, nat_lt}
use Rattle.std.proofs.lemmas.Bool.{ltb-true, ltb-false, false≢true}
use Rattle.std.specs.List.{position, position_or_len}
use Rattle.rep_declare.specs.Additions.{with_changed, place_or_zero}

module _ {X : Type 0} (test : X → Bool) (change : X → X) where
  -- it is changed where it stands
  pub changed_at_place : (xs : List X) (d : X) → position_or_len test xs < length xs
      → with_changed test change xs ≡ slice_set xs (position_or_len test xs) (change (get_or xs (position_or_len test xs) d))
  changed_at_place [] d within = absurd (omega (arith, within))
  changed_at_place (x ∷ xs) d within = at (test x) within (changed_at_place xs d) where
    at : (b : Bool) → cond (not b) (1 + position_or_len test xs) 0 < length (x ∷ xs)
        → (position_or_len test xs < length xs → with_changed test change xs ≡ slice_set xs (position_or_len test xs) (change (get_or xs (position_or_len test xs) d)))
        → cond b (change x ∷ xs) (x ∷ with_changed test change xs)
        ≡ slice_set (x ∷ xs) (cond (not b) (1 + position_or_len test xs) 0) (change (get_or (x ∷ xs) (cond (not b) (1 + position_or_len test xs) 0) d))
    at true within later = refl
    at false within later =
        let next : 1 + position_or_len test xs ≡ suc (position_or_len test xs) = omega arith in
        let inside : position_or_len test xs < length xs = omega (arith, within) in
        rw next (ap (λ ys. x ∷ ys) (later inside))

  -- nothing is changed where there is none
  pub none_changed : (xs : List X) → length xs ≤ position_or_len test xs → with_changed test change xs ≡ xs
  none_changed [] past = refl
  none_changed (x ∷ xs) past = at (test x) past (none_changed xs) where
    at : (b : Bool) → length (x ∷ xs) ≤ cond (not b) (1 + position_or_len test xs) 0
        → (length xs ≤ position_or_len test xs → with_changed test change xs ≡ xs)
        → cond b (change x ∷ xs) (x ∷ with_changed test change xs) ≡ x ∷ xs
    at true past later = absurd (omega (arith, past))
    at false past later = let behind : length xs ≤ position_or_len test xs = omega (arith, past) in ap (λ ys. x ∷ ys) (later behind)

  -- the same, by the place that is found
  pub changed_found : (xs : List X) (i : ℕ) (d : X) → position test xs ≡ Some i → with_changed test change xs ≡ slice_set xs i (change (get_or xs i d))
  changed_found xs i d found = at (nat_lt (position_or_len test xs) (length xs)) refl found where
    at : (b : Bool) → nat_lt (position_or_len test xs) (length xs) ≡ b → cond b (Some (position_or_len test xs)) None ≡ Some i
        → with_changed test change xs ≡ slice_set xs i (change (get_or xs i d))
    at true is found =
        let there : Some (position_or_len test xs) ≡ Some i = found in
        subst (λ (j : ℕ). with_changed test change xs ≡ slice_set xs j (change (get_or xs j d))) (ap place_or_zero there) (changed_at_place xs d (ltb-true _ _ is))
    at false is found = absurd (false≢true (ap is_some found))

  pub none_found : (xs : List X) → position test xs ≡ None → with_changed test change xs ≡ xs
  none_found xs found = at (nat_lt (position_or_len test xs) (length xs)) refl found where
    at : (b : Bool) → nat_lt (position_or_len test xs) (length xs) ≡ b → cond b (Some (position_or_len test xs)) None ≡ None → with_changed test change xs ≡ xs
    at true is found = absurd (false≢true (ap is_some (sym found)))
    at false is found = none_changed xs (ltb-false _ _ is)

  -- the element that was found and read, changed
  pub changed_read : (xs : List X) (found : Option ℕ) (i : ℕ) (x : X) → found ≡ position test xs → found ≡ Some i → x ≡ get_or xs i x
      → slice_set xs i (change x) ≡ with_changed test change xs
  changed_read xs found i x by is read = ap (λ y. slice_set xs i (change y)) read ∙ sym (changed_found xs i x (sym by ∙ is))

  pub none_read : (xs : List X) (found : Option ℕ) → found ≡ position test xs → found ≡ None → xs ≡ with_changed test change xs
  none_read xs found by is = sym (none_found xs (sym by ∙ is))
