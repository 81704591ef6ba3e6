-- The numbers of a set, counted up to any bound of them.
use Rattle.std.proofs.Common.{◌≡◌, ℕ, zero, suc, ◌+◌, ◌-◌, ◌<◌, Bool, true, false, cond, List, [], ◌∷◌, ◌++◌, length, refl, sym, ap, arith}
use Rattle.std.specs.List.{filter, range_with_len}
use Rattle.std.proofs.lemmas.List.{append_assoc}
use Rattle.rep_schema.specs.Sites.{has_table}
use Rattle.change_logs.specs.LogState.{tables_in}

-- a set has only numbers below its length
within : (set : List Bool) (table : ℕ) → has_table set table ≡ true → table < length set
within [] table has = cc
within (b ∷ bs) zero has = omega arith
within (b ∷ bs) (suc table) has = omega (arith, within bs table has)

module _ (f : ℕ → Bool) where
  -- from a bound on there are none
  none_from : (a n : ℕ) → ((t : ℕ) → f t ≡ true → t < a) → filter f (range_with_len a n) ≡ []
  none_from a zero bound = refl
  none_from a (suc n) bound = go (f a) refl (none_from (a + 1) n (λ t is. omega (arith, bound t is)))
    where
      go : (b : Bool) → f a ≡ b → filter f (range_with_len (a + 1) n) ≡ [] → cond b (a ∷ filter f (range_with_len (a + 1) n)) (filter f (range_with_len (a + 1) n)) ≡ []
      go true is later = absurd (omega (arith, bound a is))
      go false is later = later

  -- so two bounds give the same
  same_up_to : (a n m : ℕ) → ((t : ℕ) → f t ≡ true → t < a + n) → ((t : ℕ) → f t ≡ true → t < a + m) → filter f (range_with_len a n) ≡ filter f (range_with_len a m)
  same_up_to a zero m first second = sym (none_from a m (λ t is. omega (arith, first t is)))
  same_up_to a (suc n) zero first second = none_from a (suc n) (λ t is. omega (arith, second t is))
  same_up_to a (suc n) (suc m) first second = ap (λ rest. cond (f a) (a ∷ rest) rest) (same_up_to (a + 1) n m (λ t is. omega (arith, first t is)) (λ t is. omega (arith, second t is)))

  -- the first of the numbers that are left
  next_left : (b : Bool) (a : ℕ) (done rest : List ℕ) → (done ++ cond b (a ∷ []) []) ++ rest ≡ done ++ cond b (a ∷ rest) rest
  next_left true a done rest = append_assoc done (a ∷ []) rest
  next_left false a done rest = append_assoc done [] rest

  pub left_from : (number a : ℕ) (done : List ℕ) → a < number → (done ++ filter f (a ∷ [])) ++ filter f (range_with_len (a + 1) (number - (a + 1))) ≡ done ++ filter f (range_with_len a (number - a))
  left_from number a done below =
      let left : number - a ≡ suc (number - (a + 1)) = omega arith in
      rw left (next_left (f a) a done (filter f (range_with_len (a + 1) (number - (a + 1)))))

-- the tables of a set below a bound are all
pub tables_in-below : (set : List Bool) (number : ℕ) → ((table : ℕ) → has_table set table ≡ true → table < number) → filter (has_table set) (range_with_len 0 number) ≡ tables_in set
tables_in-below set number bound = same_up_to (has_table set) 0 number (length set) (λ t is. omega (arith, bound t is)) (λ t is. omega (arith, within set t is))
