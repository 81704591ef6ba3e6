-- How many edges lie below a position, where the list is split there.
use Rattle.std.proofs.Common.{◌≡◌, ℕ, zero, suc, ◌+◌, ◌-◌, ◌<◌, ◌≤◌, List, [], ◌∷◌, length, get_or, Bool, true, false, cond, refl, sym, ap, ◌∙◌, inl, inr, arith}
use Rattle.std.specs.Prelude.{nat_lt}
use Rattle.std.specs.List.{count_by}
use Rattle.std.specs.Ordering.{nat_cmp}
use Rattle.std.specs.Cmp.{IsTotalOrder}
use Rattle.std.specs.declared.cmp.Ordering.TheVariants.{Less, Equal, Greater}
use Rattle.std.proofs.lemmas.Cmp.{nat_cmp_total, ranked}
use Rattle.std.proofs.lemmas.Bool.{cases_lt}
use Rattle.std.proofs.lemmas.Bool.Decides.{nat_tests}
use Rattle.std.proofs.lemmas.List.Sums.{sum_by-cons}
use Rattle.rep_lists.specs.Rising.{IsThere, IsGap}
use Rattle.rep_lists.proofs.Rising.{rising_below}
use Rattle.origin_marks.specs.Edges.{count_below, falling_cmp, IsFalling}

pub cmp_less : (a b : ℕ) → nat_cmp a b ≡ Less → a < b
cmp_less a b is = rw is at (ranked a b (nat_cmp a b) refl)

pub cmp_equal : (a b : ℕ) → nat_cmp a b ≡ Equal → a ≡ b
cmp_equal a b is = rw is at (ranked a b (nat_cmp a b) refl)

pub cmp_greater : (a b : ℕ) → nat_cmp a b ≡ Greater → b < a
cmp_greater a b is = rw is at (ranked a b (nat_cmp a b) refl)

pub lt_true : (a b : ℕ) → a < b → nat_lt a b ≡ true
lt_true a b lt = grind (arith, nat_tests)

pub lt_false : (a b : ℕ) → b ≤ a → nat_lt a b ≡ false
lt_false a b le = grind (arith, nat_tests)

-- to fall is a total order too
pub falling_cmp_total : IsTotalOrder falling_cmp
falling_cmp_total = record {
  antisymm = λ x y. nat_cmp_total.antisymm y x;
  trans = λ x y z xy yz. nat_cmp_total.trans z y x yz xy;
  congr = λ x y z xy. ap (λ w. nat_cmp z w) (sym (cmp_equal y x xy));
}

-- one edge more
pub count_cons : (q : ℕ → Bool) (x : ℕ) (xs : List ℕ) → count_by q (x ∷ xs) ≡ cond (q x) 1 0 + count_by q xs
count_cons q x xs = sum_by-cons (λ y. cond (q y) 1 0) x xs

count_one : (p x : ℕ) (xs : List ℕ) → x < p → count_below p (x ∷ xs) ≡ 1 + count_below p xs
count_one p x xs lt = count_cons (λ e. nat_lt e p) x xs ∙ rw (lt_true x p lt) refl

count_none : (p x : ℕ) (xs : List ℕ) → p ≤ x → count_below p (x ∷ xs) ≡ count_below p xs
count_none p x xs le = count_cons (λ e. nat_lt e p) x xs ∙ rw (lt_false x p le) (omega arith)

-- where the edges before a place aren't below the position, and those behind are
pub count_split : (p : ℕ) (xs : List ℕ) (i : ℕ) → i ≤ length xs → ((k : ℕ) → k < i → p ≤ get_or xs k 0) → ((k : ℕ) → i ≤ k → k < length xs → get_or xs k 0 < p)
    → length xs - i ≡ count_below p xs
count_split p [] i bound above below = omega arith
count_split p (x ∷ xs) zero bound above below =
    let rest : length xs - 0 ≡ count_below p xs = count_split p xs zero (omega arith) (λ k lt. absurd (omega arith)) (λ k low lt. below (suc k) (omega arith) (omega arith)) in
    omega (arith, count_one p x xs (below 0 (omega arith) (omega arith)))
count_split p (x ∷ xs) (suc i) bound above below =
    let rest : length xs - i ≡ count_below p xs = count_split p xs i (omega arith) (λ k lt. above (suc k) (omega arith)) (λ k low lt. below (suc k) (omega arith) (omega arith)) in
    omega (arith, count_none p x xs (above 0 (omega arith)))

-- a lower edge stands further on
pub falls_at : (xs : List ℕ) (i k : ℕ) → IsFalling xs → i < k → k < length xs → get_or xs k 0 < get_or xs i 0
falls_at xs i k falling before in_range = cmp_less _ _ (rising_below (λ x. x) falling_cmp falling_cmp_total xs 0 falling i k before in_range)

-- as many as stand behind the position's own place
pub count_there : (p : ℕ) (xs : List ℕ) (i : ℕ) → IsFalling xs → IsThere (nat_cmp p) xs i → length xs - i - 1 ≡ count_below p xs
count_there p xs i falling there = omega (arith, at_end)
  where
    same : p ≡ get_or xs i 0
    same = cmp_equal p (get_or xs i 0) (there.here 0)

    above : (k : ℕ) → k < i + 1 → p ≤ get_or xs k 0
    above k lt = elim (cases_lt k i) [
      | inl first ↦ omega (arith, cmp_less p (get_or xs k 0) (there.before k 0 (omega arith) first))
      | inr last ↦ let here : k ≡ i = omega arith in rw here (omega (arith, same))
    ]

    at_end : length xs - (i + 1) ≡ count_below p xs
    at_end = count_split p xs (i + 1) (omega (arith, there.in_range)) above (λ k low lt. omega (arith, same, falls_at xs i k falling (omega arith) lt))

-- and behind its gap
pub count_gap : (p : ℕ) (xs : List ℕ) (i : ℕ) → IsGap (nat_cmp p) xs i → length xs - i ≡ count_below p xs
count_gap p xs i gap = count_split p xs i gap.in_range
    (λ k lt. omega (arith, cmp_less p (get_or xs k 0) (gap.before k 0 (omega arith) lt)))
    (λ k low lt. cmp_greater p (get_or xs k 0) (gap.behind k 0 low lt))
