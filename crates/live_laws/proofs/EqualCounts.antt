-- Lists in which each thing stands as often are equally long.
use Rattle.std.proofs.Common.{◌≡◌, suc, ◌+◌, ◌<◌, List, [], ◌∷◌, length, Bool, true, false, cond, refl, sym, ap, ◌∙◌, arith, subst}
use Rattle.rep_lists.specs.Counting.{count_where}

module _ {K : Type 0} (same : K → K → Bool) (own : (k : K) → same k k ≡ true) (alike : (k j : K) → same k j ≡ true → k ≡ j) where
  -- a list without the first place of a thing
  abbrev without : K → List K → List K
  without k [] = []
  without k (j ∷ js) = cond (same k j) js (j ∷ without k js)

  length-without : (k : K) (js : List K) → 0 < count_where (same k) js → length js ≡ suc (length (without k js))
  length-without k [] some = absurd (omega (arith, some))
  length-without k (j ∷ js) some = go (same k j) some (length-without k js)
    where
      go : (b : Bool) → 0 < cond b (count_where (same k) js + 1) (count_where (same k) js) → (0 < count_where (same k) js → length js ≡ suc (length (without k js)))
          → suc (length js) ≡ suc (length (cond b js (j ∷ without k js)))
      go true some later = refl
      go false some later = ap suc (later some)

  count-without : (k : K) (js : List K) → 0 < count_where (same k) js → count_where (same k) js ≡ count_where (same k) (without k js) + 1
  count-without k [] some = absurd (omega (arith, some))
  count-without k (j ∷ js) some = go (same k j) refl some (count-without k js)
    where
      go : (b : Bool) → same k j ≡ b → 0 < cond b (count_where (same k) js + 1) (count_where (same k) js) → (0 < count_where (same k) js → count_where (same k) js ≡ count_where (same k) (without k js) + 1)
          → cond b (count_where (same k) js + 1) (count_where (same k) js) ≡ count_where (same k) (cond b js (j ∷ without k js)) + 1
      go true is some later = refl
      go false is some later = rw is (later some)

  -- other things stand as often as before
  count-without_other : (k l : K) (js : List K) → same l k ≡ false → count_where (same l) (without k js) ≡ count_where (same l) js
  count-without_other k l [] off = refl
  count-without_other k l (j ∷ js) off = go (same k j) refl (count-without_other k l js off)
    where
      go : (b : Bool) → same k j ≡ b → count_where (same l) (without k js) ≡ count_where (same l) js
          → count_where (same l) (cond b js (j ∷ without k js)) ≡ cond (same l j) (count_where (same l) js + 1) (count_where (same l) js)
      go true is later = let at : k ≡ j = alike k j is in let not : same l j ≡ false = subst (λ m. same l m ≡ false) at off in rw not refl
      go false is later = rw later refl

  pub equally_long : (ks js : List K) → ((k : K) → count_where (same k) ks ≡ count_where (same k) js) → length ks ≡ length js
  equally_long [] [] each = refl
  equally_long [] (j ∷ js) each = absurd (none (same j j) (own j) (each j))
    where
      none : (b : Bool) → b ≡ true → 0 ≡ cond b (count_where (same j) js + 1) (count_where (same j) js) → ⊥
      none true is same_count = absurd (omega (arith, same_count))
      none false is same_count = absurd (cc is)
  equally_long (k ∷ ks) js each = ap suc (equally_long ks (without k js) rest) ∙ sym (length-without k js some)
    where
      first : count_where (same k) (k ∷ ks) ≡ count_where (same k) ks + 1
      first = rw (own k) refl

      some : 0 < count_where (same k) js
      some = omega (arith, first, each k)

      rest : (l : K) → count_where (same l) ks ≡ count_where (same l) (without k js)
      rest l = go (same l k) refl (each l)
        where
          go : (b : Bool) → same l k ≡ b → cond b (count_where (same l) ks + 1) (count_where (same l) ks) ≡ count_where (same l) js → count_where (same l) ks ≡ count_where (same l) (without k js)
          go true is here =
              let at : l ≡ k = alike l k is in
              omega (arith, here, ap (λ m. count_where (same m) js) at, ap (λ m. count_where (same m) (without k js)) at, count-without k js some)
          go false is here = here ∙ sym (count-without_other k l js is)
