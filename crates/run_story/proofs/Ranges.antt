-- Numbers one after the other, and a list that is read at such places.
use Rattle.std.proofs.Common.{◌≡◌, ℕ, zero, suc, ◌+◌, ◌≤◌, List, ◌∷◌, ◌++◌, length, drop, refl, sym, ap, ◌∙◌, arith, inl, inr}
use Rattle.std.specs.Prelude.{slice_get, Option, None, Some}
use Rattle.std.specs.List.{filter_map, range_with_len}
use Rattle.std.proofs.lemmas.List.{drop_all}
use Rattle.std.proofs.lemmas.Option.{slice_get_cases}
use Rattle.rep_lists.proofs.Places.{drop_from_found}

-- so many numbers from one on, and so many behind them
pub range_with_len-append : (a n m : ℕ) → range_with_len a n ++ range_with_len (a + n) m ≡ range_with_len a (n + m)
range_with_len-append a zero m = let none : a + 0 ≡ a = omega arith in let all : 0 + m ≡ m = omega arith in rw (none, all) refl
range_with_len-append a (suc n) m =
    let shifted : a + suc n ≡ (a + 1) + n = omega arith in
    let longer : suc n + m ≡ suc (n + m) = omega arith in
    rw (shifted, longer) (ap (λ ns. a ∷ ns) (range_with_len-append (a + 1) n m))

-- where nothing stands the list ends
beyond : {X : Type 0} (xs : List X) (k : ℕ) → slice_get xs k ≡ None → length xs ≤ k
beyond xs k is = elim (slice_get_cases xs k).1 [ inl found ↦ absurd (let there = found.2 in cc) | inr past ↦ past.0 ]

-- so many numbers from 0 on, and so many behind them
pub range_from_0-append : (n m : ℕ) → range_with_len 0 n ++ range_with_len n m ≡ range_with_len 0 (n + m)
range_from_0-append n m =
    let same : 0 + n ≡ n = omega arith in
    ap (λ k. range_with_len 0 n ++ range_with_len k m) (sym same) ∙ range_with_len-append 0 n m

-- what stands in a list at all places from one on
pub filter_map-slice_get : {X : Type 0} (xs : List X) (n k : ℕ) → length xs ≤ k + n → filter_map (slice_get xs) (range_with_len k n) ≡ drop k xs
filter_map-slice_get xs zero k within = sym (drop_all k xs (omega (arith, within)))
filter_map-slice_get {X} xs (suc n) k within = go (slice_get xs k) refl (filter_map-slice_get xs n (k + 1) (omega (arith, within)))
  where
    go : (o : Option X) → slice_get xs k ≡ o → filter_map (slice_get xs) (range_with_len (k + 1) n) ≡ drop (k + 1) xs → filter_map (slice_get xs) (k ∷ range_with_len (k + 1) n) ≡ drop k xs
    go None is rest = rw is (rest ∙ ends)
      where
        past : length xs ≤ k
        past = beyond xs k is

        ends : drop (k + 1) xs ≡ drop k xs
        ends = drop_all (k + 1) xs (omega (arith, past)) ∙ sym (drop_all k xs past)
    go (Some x) is rest = rw is (ap (λ ys. x ∷ ys) rest ∙ sym (drop_from_found xs k x is))
