-- The greatest finished position by the first edge.
use Rattle.std.proofs.Common.{◌≡◌, ℕ, zero, suc, ◌+◌, ◌-◌, ◌<◌, ◌≤◌, Bool, true, false, not, List, [], ◌∷◌, length, get_or, refl, sym, ap, ◌∙◌, arith}
use Rattle.origin_marks.specs.Edges.{is_odd, count_below, is_between, IsFalling, IsEdges}
use Rattle.origin_marks.specs.Marks.{IsHighest}
use Rattle.origin_marks.proofs.Counts.{count_split, falls_at}
use Rattle.origin_marks.proofs.Flips.{odd_next}

-- without edges nothing is finished
pub highest_none : IsHighest (is_between []) 0
highest_none = record { above = λ p above. refl; itself = λ from_one. absurd (omega (arith, from_one)) }

-- all edges lie below a position above the first, and all others below the first one
pub highest_first : (x : ℕ) (xs : List ℕ) → IsEdges (x ∷ xs) → IsHighest (is_between (x ∷ xs)) x
highest_first x xs edges = record { above = above; itself = itself }
  where
    below_first : (k : ℕ) → 0 < k → k < length (x ∷ xs) → get_or (x ∷ xs) k 0 < x
    below_first k later within = falls_at (x ∷ xs) 0 k edges.falling later within

    above : (p : ℕ) → x < p → is_between (x ∷ xs) p ≡ false
    above p more =
        let count : length (x ∷ xs) - 0 ≡ count_below p (x ∷ xs) = count_split p (x ∷ xs) 0 (omega arith) (λ k lt. absurd (omega (arith, lt))) lower in
        let all : count_below p (x ∷ xs) ≡ length (x ∷ xs) = omega (arith, count) in
        ap is_odd all ∙ edges.paired
      where
        lower : (k : ℕ) → 0 ≤ k → k < length (x ∷ xs) → get_or (x ∷ xs) k 0 < p
        lower zero low within = more
        lower (suc k) low within = omega (arith, more, below_first (suc k) (omega arith) within)

    itself : 1 ≤ x → is_between (x ∷ xs) x ≡ true
    itself from_one =
        let count : length (x ∷ xs) - 1 ≡ count_below x (x ∷ xs) = count_split x (x ∷ xs) 1 (omega arith) first (λ k low within. below_first k (omega (arith, low)) within) in
        let rest : count_below x (x ∷ xs) ≡ length xs = omega (arith, count) in
        let one_more : 1 + length xs ≡ length (x ∷ xs) = omega arith in
        let flipped_back : not (is_odd (length xs)) ≡ false = sym (odd_next (length xs)) ∙ ap is_odd one_more ∙ edges.paired in
        ap is_odd rest ∙ off (is_odd (length xs)) flipped_back
      where
        first : (k : ℕ) → k < 1 → x ≤ get_or (x ∷ xs) k 0
        first zero lt = omega arith
        first (suc k) lt = absurd (omega (arith, lt))

        off : (b : Bool) → not b ≡ false → b ≡ true
        off true is = refl
        off false is = cc

-- the first edge, as the code reads it
pub highest_at : (xs : List ℕ) → 1 ≤ length xs → IsEdges xs → IsHighest (is_between xs) (get_or xs 0 0)
highest_at [] one edges = absurd (omega (arith, one))
highest_at (x ∷ xs) one edges = highest_first x xs edges
