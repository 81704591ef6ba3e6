-- A level put by a walk from the front: at the first one that isn't of a lower value, or behind all.
use Rattle.std.proofs.Common.{◌≡◌, ◌≢◌, ℕ, zero, suc, ◌+◌, ◌<◌, ◌≤◌, Bool, true, false, cond, not, List, [], ◌∷◌, ◌++◌, length, Option, Some, None, get_or, set, refl, sym, ap, ◌∙◌, arith}
use Rattle.std.specs.Prelude.{is_some, nat_lt}
use Rattle.std.specs.List.{insert, position, position_or_len, AllWithin, HoldsAt}
use Rattle.std.specs.Ordering.{is_ge}
use Rattle.std.specs.declared.cmp.Ordering.{Ordering}
use Rattle.std.specs.declared.cmp.Ordering.TheVariants.{Less, Equal, Greater}
use Rattle.std.proofs.lemmas.Bool.{ltb-false, false≢true}
use Rattle.std.proofs.lemmas.Cmp.{tied_itself}
use Rattle.std.proofs.lemmas.List.{get_or_default}
use Rattle.std.proofs.lemmas.List.Quantifiers.{position-Some}
use Rattle.rep_lists.specs.Rising.{put_at, put_here}
use Rattle.rep_lists.proofs.Rising.{put_there}
use Rattle.rep_values.specs.Order.{value_cmp}
use Rattle.rep_values.specs.OrderLaws.{value_cmp_total, exact_values}
use Rattle.rep_schema.specs.declared.schema.PriorityLevel.{PriorityLevel}
use Rattle.rep_schema.specs.Levels.{beside_value}

below : (o : Ordering) → is_ge o ≡ false → o ≡ Less
below Less e = refl
below Equal e = cc
below Greater e = cc

above : (o : Ordering) → is_ge o ≡ true → o ≢ Equal → o ≡ Greater
above Less e apart = cc
above Equal e apart = absurd (apart refl)
above Greater e apart = refl

module _ {X : Type 0} (at : X → Ordering) (y : X) where
  -- in front of the first one above
  put_before : (xs : List X) (i : ℕ) → i < length xs → AllWithin (λ x. at x ≡ Less) xs 0 i → HoldsAt (λ x. at x ≡ Greater) xs i → put_at at y xs ≡ insert xs i y
  put_before [] i within before here = absurd (omega (arith, within))
  put_before (x ∷ xs) zero within before here = rw (here x) refl
  put_before (x ∷ xs) (suc i) within before here =
      rw (before 0 x (omega arith) (omega arith))
      (ap (λ t. x ∷ t) (put_before xs i (omega (arith, within)) (λ k d low lt. before (suc k) d (omega arith) (omega (arith, lt))) (λ d. here d)))

  -- in place of the first one that isn't below
  pub put_first_same : (xs : List X) (i : ℕ) (d : X) → position (λ x. is_ge (at x)) xs ≡ Some i → at (get_or xs i d) ≡ Equal → put_at at y xs ≡ set xs i y
  put_first_same xs i d first same = put_there at y xs i (record {
    in_range = (position-Some _ xs i d first).0;
    here = λ e. ap at (get_or_default xs i e d (position-Some _ xs i d first).0) ∙ same;
    before = λ k e low lt. below _ ((position-Some _ xs i e first).2 k lt);
  })

  -- in front of it
  pub put_first_above : (xs : List X) (i : ℕ) (d : X) → position (λ x. is_ge (at x)) xs ≡ Some i → at (get_or xs i d) ≢ Equal → put_at at y xs ≡ insert xs i y
  put_first_above xs i d first apart =
      let facts = position-Some _ xs i d first in
      put_before xs i facts.0 (λ k e low lt. below _ ((position-Some _ xs i e first).2 k lt))
      (λ e. ap at (get_or_default xs i e d facts.0) ∙ above _ facts.1 apart)

  -- behind all
  pub put_last : (xs : List X) → position (λ x. is_ge (at x)) xs ≡ None → put_at at y xs ≡ xs ++ y ∷ []
  put_last xs none = go (nat_lt (position_or_len (λ x. is_ge (at x)) xs) (length xs)) refl none
    where
      behind : (zs : List X) → length zs ≤ position_or_len (λ x. is_ge (at x)) zs → put_at at y zs ≡ zs ++ y ∷ []
      behind [] past = refl
      behind (z ∷ zs) past = by (at z) past (behind zs)
        where
          by : (o : Ordering) → length (z ∷ zs) ≤ cond (not (is_ge o)) (1 + position_or_len (λ x. is_ge (at x)) zs) 0
              → (length zs ≤ position_or_len (λ x. is_ge (at x)) zs → put_at at y zs ≡ zs ++ y ∷ []) → put_here o y z zs (put_at at y zs) ≡ z ∷ (zs ++ y ∷ [])
          by Less past later = ap (λ t. z ∷ t) (later (omega (arith, past)))
          by Equal past later = absurd (omega (arith, past))
          by Greater past later = absurd (omega (arith, past))

      go : (b : Bool) → nat_lt (position_or_len (λ x. is_ge (at x)) xs) (length xs) ≡ b → cond b (Some (position_or_len (λ x. is_ge (at x)) xs)) None ≡ None → put_at at y xs ≡ xs ++ y ∷ []
      go true is none = absurd (false≢true (ap is_some (sym none)))
      go false is none = behind xs (ltb-false _ _ is)

-- where a walk finds a level, it is put there: in place of one of its value
module _ (level : PriorityLevel) (levels : List PriorityLevel) (found : Option ℕ) (by : found ≡ position (λ l. is_ge (beside_value level.value l)) levels) where
  pub set_level : (place : ℕ) (one : PriorityLevel) → found ≡ Some place → one ≡ get_or levels place one → one.value ≡ level.value → set levels place level ≡ put_at (beside_value level.value) level levels
  set_level place one is read same = sym (put_first_same (beside_value level.value) level levels place one (sym by ∙ is)
      (ap (beside_value level.value) (sym read) ∙ ap (λ v. value_cmp v level.value) same ∙ tied_itself value_cmp_total level.value))

  -- in front of one of a higher value
  pub insert_level : (place : ℕ) (one : PriorityLevel) → found ≡ Some place → one ≡ get_or levels place one → one.value ≢ level.value → insert levels place level ≡ put_at (beside_value level.value) level levels
  insert_level place one is read other = sym (put_first_above (beside_value level.value) level levels place one (sym by ∙ is)
      (λ tied. other (exact_values one.value level.value (ap (beside_value level.value) read ∙ tied))))

  -- behind all
  pub push_level : found ≡ None → levels ++ level ∷ [] ≡ put_at (beside_value level.value) level levels
  push_level is = sym (put_last (beside_value level.value) level levels (sym by ∙ is))
