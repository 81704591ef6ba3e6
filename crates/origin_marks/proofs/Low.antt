-- The low-water mark by the two lowest edges.
use Rattle.std.proofs.Common.{◌≡◌, ◌≢◌, ℕ, ◌+◌, ◌-◌, ◌<◌, ◌≤◌, true, false, List, [], ◌∷◌, length, get_or, refl, ap, inl, inr, arith}
use Rattle.std.proofs.lemmas.Bool.{cases_lt}
use Rattle.origin_marks.specs.Edges.{is_odd, count_below, is_between, IsFalling}
use Rattle.origin_marks.specs.Marks.{IsLowWater}
use Rattle.origin_marks.proofs.Counts.{count_split, falls_at}

-- an edge is the mark where the one behind it is 0
pub low_at : (xs : List ℕ) (n : ℕ) → IsFalling xs → length xs ≡ n + 2 → get_or xs (n + 1) 0 ≡ 0 → IsLowWater (is_between xs) (get_or xs n 0)
low_at xs n falling two zero_last = record { below = below; next = next }
  where
    below : (p : ℕ) → 0 < p → p ≤ get_or xs n 0 → is_between xs p ≡ true
    below p from_one up_to =
        let count : length xs - (n + 1) ≡ count_below p xs = count_split p xs (n + 1) (omega arith) above (λ k low lt. let last : k ≡ n + 1 = omega arith in rw last (omega (arith, zero_last))) in
        let one : count_below p xs ≡ 1 = omega arith in
        ap is_odd one
      where
        above : (k : ℕ) → k < n + 1 → p ≤ get_or xs k 0
        above k lt = elim (cases_lt k n) [
          | inl first ↦ omega (arith, falls_at xs k n falling first (omega arith))
          | inr last ↦ let here : k ≡ n = omega arith in rw here up_to
        ]

    next : is_between xs (get_or xs n 0 + 1) ≡ false
    next =
        let count : length xs - n ≡ count_below (get_or xs n 0 + 1) xs = count_split (get_or xs n 0 + 1) xs n (omega arith) (λ k lt. omega (arith, falls_at xs k n falling lt (omega arith))) behind in
        let two_below : count_below (get_or xs n 0 + 1) xs ≡ 2 = omega arith in
        ap is_odd two_below
      where
        behind : (k : ℕ) → n ≤ k → k < length xs → get_or xs k 0 < get_or xs n 0 + 1
        behind k low lt = elim (cases_lt n k) [
          | inl later ↦ omega (arith, falls_at xs n k falling later lt)
          | inr same ↦ let here : k ≡ n = omega arith in rw here (omega arith)
        ]

-- without edges nothing is finished
pub low_none : (xs : List ℕ) → length xs ≡ 0 → IsLowWater (is_between xs) 0
low_none [] empty = record { below = λ p from_one up_to. absurd (omega arith); next = refl }
low_none (x ∷ xs) empty = absurd (omega arith)

-- where the lowest edge isn't 0, the first position isn't finished
pub low_zero : (xs : List ℕ) (n : ℕ) → IsFalling xs → length xs ≡ n + 1 → 0 < get_or xs n 0 → IsLowWater (is_between xs) 0
low_zero xs n falling one above_zero = record { below = λ p from_one up_to. absurd (omega arith); next = next }
  where
    above : (k : ℕ) → k < n + 1 → 1 ≤ get_or xs k 0
    above k lt = elim (cases_lt k n) [
      | inl first ↦ omega (arith, falls_at xs k n falling first (omega arith))
      | inr last ↦ let here : k ≡ n = omega arith in rw here (omega arith)
    ]

    next : is_between xs 1 ≡ false
    next =
        let count : length xs - (n + 1) ≡ count_below 1 xs = count_split 1 xs (n + 1) (omega arith) above (λ k low lt. absurd (omega arith)) in
        let none : count_below 1 xs ≡ 0 = omega arith in
        ap is_odd none

-- the mark as the code reads it
pub low_mark : (xs : List ℕ) → IsFalling xs → 2 ≤ length xs → get_or xs (length xs - 1) 0 ≡ 0 → IsLowWater (is_between xs) (get_or xs (length xs - 2) 0)
low_mark xs falling two lowest =
    let place : length xs - 2 + 1 ≡ length xs - 1 = omega arith in
    low_at xs (length xs - 2) falling (omega arith) (rw place lowest)

pub low_start : (xs : List ℕ) → IsFalling xs → 2 ≤ length xs → get_or xs (length xs - 1) 0 ≢ 0 → IsLowWater (is_between xs) 0
low_start xs falling two lowest = low_zero xs (length xs - 1) falling (omega arith) (omega (arith, lowest))
