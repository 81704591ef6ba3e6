-- Distinct numbers below a bound are at most as many as the bound says.
use Rattle.std.proofs.Common.{◌≡◌, ◌≢◌, ℕ, zero, suc, ◌<◌, ◌≤◌, List, [], ◌∷◌, length, get_or, Bool, true, false, sym, ◌∙◌, refl, arith}
use Rattle.std.specs.Prelude.{not, nat_lt, filter}
use Rattle.std.specs.List.{All, AllPairs}
use Rattle.std.proofs.lemmas.Bool.{ltb-true, ltb-false}
use Rattle.std.proofs.lemmas.List.Elements.{filter_passes, All-filter}
use Rattle.std.proofs.lemmas.List.Filters.{length-filter_both}
use Rattle.std.proofs.lemmas.List.Kept.{AllPairs-filter}

-- of distinct values at most one is n
one_at_most : (n : ℕ) (xs : List ℕ) → AllPairs (λ x y. x ≢ y) xs → All (λ x. x ≡ n) xs → length xs ≤ 1
one_at_most n [] distinct all = omega arith
one_at_most n (x ∷ []) distinct all = omega arith
one_at_most n (x ∷ y ∷ ys) distinct all =
    let first : x ≡ n = all 0 n (omega arith) in
    let second : y ≡ n = all 1 n (omega arith) in
    absurd (distinct 0 1 n (omega arith) (omega arith) (first ∙ sym second))

false_from_not : (b : Bool) → not b ≡ true → b ≡ false
false_from_not true e = cc
false_from_not false e = refl

pub few_distinct : (n : ℕ) (xs : List ℕ) → AllPairs (λ x y. x ≢ y) xs → All (λ x. x < n) xs → length xs ≤ n
few_distinct zero [] distinct below = omega arith
few_distinct zero (x ∷ xs) distinct below = let none : x < 0 = below 0 x (omega arith) in absurd (omega (arith, none))
few_distinct (suc n) xs distinct below =
    let is_low : ℕ → Bool = λ x. nat_lt x n in
    let is_high : ℕ → Bool = λ x. not (nat_lt x n) in
    let low = few_distinct n (filter is_low xs) (AllPairs-filter (λ x y. x ≢ y) is_low xs distinct) (λ k d within. ltb-true _ n (filter_passes is_low xs k d within)) in
    let high = one_at_most n (filter is_high xs) (AllPairs-filter (λ x y. x ≢ y) is_high xs distinct) (λ k d within.
    let under : get_or (filter is_high xs) k d < suc n = All-filter is_high (λ x. x < suc n) xs below k d within in
    let over = ltb-false (get_or (filter is_high xs) k d) n (false_from_not _ (filter_passes is_high xs k d within)) in
    omega (arith, under, over)) in
    omega (arith, low, high, length-filter_both is_low is_high (λ x. refl) xs)
