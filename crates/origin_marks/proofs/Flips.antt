-- What it does to the counts, and to the order, that an edge is flipped.
use Rattle.std.proofs.Common.{◌≡◌, ℕ, zero, suc, zero-add, ◌+◌, ◌-◌, ◌<◌, ◌≤◌, ◌==◌, Bool, true, false, not, cond, List, [], ◌∷◌, length, get_or, set, refl, sym, ap, ◌∙◌, inl, inr, arith}
use Rattle.std.specs.Prelude.{nat_lt, ◌||◌}
use Rattle.std.specs.List.{insert, remove, count_by, AllByRecursion}
use Rattle.std.specs.Ordering.{nat_cmp, ordering_reverse}
use Rattle.std.specs.declared.cmp.Ordering.{Ordering}
use Rattle.std.specs.declared.cmp.Ordering.TheVariants.{Less, Equal, Greater}
use Rattle.std.specs.Cmp.{nat_cmp_is}
use Rattle.std.proofs.lemmas.Cmp.{nat_cmp_total}
use Rattle.std.proofs.lemmas.Bool.{cases_lt}
use Rattle.std.proofs.lemmas.Bool.Decides.{nat_tests}
use Rattle.rep_lists.specs.Rising.{IsThere, IsGap}
use Rattle.rep_lists.proofs.Each.{each_then}
use Rattle.origin_marks.specs.Edges.{is_odd, is_between, falling_cmp, IsFalling, IsEdges, flipped, flipped_here}
use Rattle.origin_marks.proofs.Counts.{cmp_less, cmp_equal, count_cons, falls_at}

there_next : (e x : ℕ) (xs : List ℕ) (i : ℕ) → IsThere (nat_cmp e) (x ∷ xs) (suc i) → IsThere (nat_cmp e) xs i
there_next e x xs i there = record {
  in_range = omega (arith, there.in_range);
  here = λ d. there.here d;
  before = λ k d low lt. there.before (suc k) d (omega arith) (omega arith);
}

gap_next : (e x : ℕ) (xs : List ℕ) (i : ℕ) → IsGap (nat_cmp e) (x ∷ xs) (suc i) → IsGap (nat_cmp e) xs i
gap_next e x xs i gap = record {
  in_range = omega (arith, gap.in_range);
  before = λ k d low lt. gap.before (suc k) d (omega arith) (omega arith);
  behind = λ k d low lt. gap.behind (suc k) d (omega arith) (omega arith);
}

-- a flip of an edge that is there removes it
pub flipped_there : (e : ℕ) (xs : List ℕ) (i : ℕ) → IsThere (nat_cmp e) xs i → remove xs i ≡ flipped e xs
flipped_there e [] i there = absurd (omega (arith, there.in_range))
flipped_there e (x ∷ xs) zero there = rw (there.here x) refl
flipped_there e (x ∷ xs) (suc i) there = rw (there.before 0 x (omega arith) (omega arith)) (ap (λ t. x ∷ t) (flipped_there e xs i (there_next e x xs i there)))

-- and otherwise it inserts the edge
pub flipped_gap : (e : ℕ) (xs : List ℕ) (i : ℕ) → IsGap (nat_cmp e) xs i → insert xs i e ≡ flipped e xs
flipped_gap e [] zero gap = refl
flipped_gap e [] (suc i) gap = absurd (omega (arith, gap.in_range))
flipped_gap e (x ∷ xs) zero gap = rw (gap.behind 0 x (omega arith) (omega arith)) refl
flipped_gap e (x ∷ xs) (suc i) gap = rw (gap.before 0 x (omega arith) (omega arith)) (ap (λ t. x ∷ t) (flipped_gap e xs i (gap_next e x xs i gap)))

flipped_top : (e x : ℕ) (xs : List ℕ) → x ≤ e → AllByRecursion (λ y. falling_cmp x y ≡ Less) xs → e ∷ xs ≡ flipped e xs
flipped_top e x [] le all = refl
flipped_top e x (y ∷ ys) le all =
    let higher : nat_cmp e y ≡ Greater = sym (nat_cmp_is e y Greater (omega (arith, cmp_less y x all.0))) in
    rw higher

-- where the next number isn't an edge, flips of both move the edge up by one
pub flipped_both : (p : ℕ) (xs : List ℕ) (i : ℕ) → IsFalling xs → IsThere (nat_cmp (p - 1)) xs i → ((k : ℕ) → k < i → p < get_or xs k 0)
    → set xs i p ≡ flipped p (flipped (p - 1) xs)
flipped_both p [] i falling there above = absurd (omega (arith, there.in_range))
flipped_both p (x ∷ xs) zero falling there above =
    let same : p - 1 ≡ x = cmp_equal (p - 1) x (there.here x) in
    rw (there.here x) (flipped_top p x xs (omega arith) falling.0)
flipped_both p (x ∷ xs) (suc i) falling there above =
    let higher : nat_cmp p x ≡ Less = sym (nat_cmp_is p x Less (above 0 (omega arith))) in
    rw (there.before 0 x (omega arith) (omega arith), higher) (ap (λ t. x ∷ t) (flipped_both p xs i falling.1 (there_next (p - 1) x xs i there) (λ k lt. above (suc k) (omega arith))))

-- that is so where the edge before it is above that number
pub flipped_free : (p : ℕ) (xs : List ℕ) (i : ℕ) → IsFalling xs → IsThere (nat_cmp (p - 1)) xs i → (i == 0 || nat_lt p (get_or xs (i - 1) 0)) ≡ true
    → set xs i p ≡ flipped p (flipped (p - 1) xs)
flipped_free p xs i falling there free = flipped_both p xs i falling there above
  where
    at_last : 0 < i → p < get_or xs (i - 1) 0
    at_last lt = grind (arith, nat_tests, free)

    above : (k : ℕ) → k < i → p < get_or xs k 0
    above k lt = elim (cases_lt k (i - 1)) [
      | inl first ↦ omega (arith, at_last (omega arith), falls_at xs k (i - 1) falling first (omega (arith, there.in_range)))
      | inr last ↦ let here : k ≡ i - 1 = omega arith in rw here (at_last (omega arith))
    ]

-- the order stays
all_flipped : (P : ℕ → Type 0) (e : ℕ) (xs : List ℕ) → P e → AllByRecursion P xs → AllByRecursion P (flipped e xs)
all_flipped P e [] p all = (p, tt)
all_flipped P e (x ∷ xs) p all = go (nat_cmp e x) (all_flipped P e xs p all.1)
  where
    go : (o : Ordering) → AllByRecursion P (flipped e xs) → AllByRecursion P (flipped_here o e x xs (flipped e xs))
    go Less later = (all.0, later)
    go Equal later = all.1
    go Greater later = (p, all)

pub falling_flipped : (e : ℕ) (xs : List ℕ) → IsFalling xs → IsFalling (flipped e xs)
falling_flipped e [] falling = (tt, tt)
falling_flipped e (x ∷ xs) falling = go (nat_cmp e x) refl (falling_flipped e xs falling.1)
  where
    go : (o : Ordering) → nat_cmp e x ≡ o → IsFalling (flipped e xs) → IsFalling (flipped_here o e x xs (flipped e xs))
    go Less is later = (all_flipped (λ y. falling_cmp x y ≡ Less) e xs is falling.0, later)
    go Equal is later = falling.1
    go Greater is later =
        let above : falling_cmp e x ≡ Less = nat_cmp_total.antisymm x e ∙ ap ordering_reverse is in
        ((above, each_then (λ y. falling_cmp x y ≡ Less) (λ y. falling_cmp e y ≡ Less) (λ y lt. nat_cmp_total.trans y x e lt above) xs falling.0), falling)

-- where one more is counted, an odd count is even, and the other way round
abbrev pub turned : Bool → Bool → Bool
turned b odd = cond b (not odd) odd

turned_swap : (a b odd : Bool) → turned a (turned b odd) ≡ turned b (turned a odd)
turned_swap true true odd = refl
turned_swap true false odd = refl
turned_swap false b odd = refl

turned_twice : (b odd : Bool) → turned b (turned b odd) ≡ odd
turned_twice true true = refl
turned_twice true false = refl
turned_twice false odd = refl

-- the next number is odd where this one isn't
pub odd_next : (n : ℕ) → is_odd (1 + n) ≡ not (is_odd n)
odd_next n = grind (arith, nat_tests)

odd_cons : (b : Bool) (n : ℕ) → is_odd (cond b 1 0 + n) ≡ turned b (is_odd n)
odd_cons true n = odd_next n
odd_cons false n = ap is_odd (zero-add n)

odd_more : (q : ℕ → Bool) (x : ℕ) (xs : List ℕ) → is_odd (count_by q (x ∷ xs)) ≡ turned (q x) (is_odd (count_by q xs))
odd_more q x xs = ap is_odd (count_cons q x xs) ∙ odd_cons (q x) (count_by q xs)

-- a flip turns a count to which the edge belongs
pub odd_flipped : (q : ℕ → Bool) (e : ℕ) (xs : List ℕ) → is_odd (count_by q (flipped e xs)) ≡ turned (q e) (is_odd (count_by q xs))
odd_flipped q e [] = odd_more q e []
odd_flipped q e (x ∷ xs) = go (nat_cmp e x) refl (odd_flipped q e xs)
  where
    go : (o : Ordering) → nat_cmp e x ≡ o → is_odd (count_by q (flipped e xs)) ≡ turned (q e) (is_odd (count_by q xs))
        → is_odd (count_by q (flipped_here o e x xs (flipped e xs))) ≡ turned (q e) (is_odd (count_by q (x ∷ xs)))
    go Less is later = odd_more q x (flipped e xs) ∙ ap (turned (q x)) later ∙ turned_swap (q x) (q e) (is_odd (count_by q xs)) ∙ ap (turned (q e)) (sym (odd_more q x xs))
    go Equal is later =
        let same : e ≡ x = cmp_equal e x is in
        sym (turned_twice (q e) (is_odd (count_by q xs))) ∙ ap (turned (q e)) (ap (λ y. turned (q y) (is_odd (count_by q xs))) same ∙ sym (odd_more q x xs))
    go Greater is later = odd_more q e (x ∷ xs)

count_all : (xs : List ℕ) → count_by (λ x. true) xs ≡ length xs
count_all [] = refl
count_all (x ∷ xs) = count_cons (λ y. true) x xs ∙ omega (arith, count_all xs)

odd_length : (e : ℕ) (xs : List ℕ) → is_odd (length (flipped e xs)) ≡ not (is_odd (length xs))
odd_length e xs = ap is_odd (sym (count_all (flipped e xs))) ∙ odd_flipped (λ x. true) e xs ∙ ap (λ n. not (is_odd n)) (count_all xs)

-- after two flips the edges fall, and come in pairs
pub edges_flipped : (a b : ℕ) (xs : List ℕ) → IsEdges xs → IsEdges (flipped a (flipped b xs))
edges_flipped a b xs edges = record {
  falling = falling_flipped a (flipped b xs) (falling_flipped b xs edges.falling);
  paired = odd_length a (flipped b xs) ∙ ap not (odd_length b xs) ∙ ap (λ odd. not (not odd)) edges.paired;
}

-- flips of the two edges beside a position finish it, and no other
pub between_flipped : (position : ℕ) (xs : List ℕ) → 1 ≤ position → is_between xs position ≡ false
    → (p : ℕ) → is_between (flipped position (flipped (position - 1) xs)) p ≡ (p == position || is_between xs p)
between_flipped position xs from_one unfinished p =
    odd_flipped (λ e. nat_lt e p) position (flipped (position - 1) xs) ∙ ap (turned (nat_lt position p)) (odd_flipped (λ e. nat_lt e p) (position - 1) xs)
    ∙ beside position p (is_between xs p) from_one (λ same. rw same unfinished)
  where
    beside : (n p : ℕ) (b : Bool) → 1 ≤ n → (p ≡ n → b ≡ false) → turned (nat_lt n p) (turned (nat_lt (n - 1) p) b) ≡ (p == n || b)
    beside n p true from_one here = grind (arith, nat_tests)
    beside n p false from_one here = grind (arith, nat_tests)
