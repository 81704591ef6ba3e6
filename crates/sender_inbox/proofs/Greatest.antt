-- The greatest number among the arrivals that pass a test, after an arrival and where one position more passes.
use Rattle.std.proofs.Common.{◌≡◌, ℕ, ◌<◌, ◌≤◌, ◌==◌, Bool, true, false, cond, max, List, [], ◌∷◌, None, refl, ap, ◌∙◌, arith}
use Rattle.std.specs.Prelude.{◌≢◌, ◌||◌}
use Rattle.std.specs.List.{AllByRecursion}
use Rattle.std.specs.declared.cmp.Ordering.{Ordering}
use Rattle.std.specs.declared.cmp.Ordering.TheVariants.{Less, Equal, Greater}
use Rattle.std.proofs.lemmas.Bool.Decides.{nat_tests}
use Rattle.rep_lists.specs.Rising.{IsRising, find_at, put_at, found_here, put_here}
use Rattle.origin_marks.proofs.Counts.{cmp_less, cmp_equal, cmp_greater}
use Rattle.site_state.specs.declared.arrival.Arrival.{Arrival}
use Rattle.site_state.specs.State.{arrival_beside}
use Rattle.site_state.specs.Ready.{arrival_number}
use Rattle.sender_inbox.specs.Incoming.{by_position, greatest_where}

-- where two tests agree on each arrival, it is the same
greatest_where-same : (f g : ℕ → Bool) (xs : List Arrival) → AllByRecursion (λ (a : Arrival). f a.position ≡ g a.position) xs → greatest_where f xs ≡ greatest_where g xs
greatest_where-same f g [] same = refl
greatest_where-same f g (x ∷ xs) same = rw (same.0, greatest_where-same f g xs same.1) refl

-- an arrival that doesn't pass leaves it
pub greatest_where-put : (f : ℕ → Bool) (a : Arrival) (xs : List Arrival) → f a.position ≡ false → find_at (arrival_beside a.position) xs ≡ None
    → greatest_where f (put_at (arrival_beside a.position) a xs) ≡ greatest_where f xs
greatest_where-put f a [] fails absent = rw fails refl
greatest_where-put f a (x ∷ xs) fails absent = go (arrival_beside a.position x) absent (greatest_where-put f a xs fails)
  where
    go : (o : Ordering) → found_here o x (find_at (arrival_beside a.position) xs) ≡ None
        → (find_at (arrival_beside a.position) xs ≡ None → greatest_where f (put_at (arrival_beside a.position) a xs) ≡ greatest_where f xs)
        → greatest_where f (put_here o a x xs (put_at (arrival_beside a.position) a xs)) ≡ greatest_where f (x ∷ xs)
    go Less none later = ap (λ n. max (cond (f x.position) x.number 0) n) (later none)
    go Equal none later = cc
    go Greater none later = rw fails (omega arith)

same_number : (p q : ℕ) → p ≡ q → (p == q) ≡ true
same_number p q same = grind (arith, nat_tests)

other_number : (p q : ℕ) → p ≢ q → (p == q) ≡ false
other_number p q other = grind (arith, nat_tests)

below_more : (c t u n : ℕ) → u ≡ max t n → max c u ≡ max (max c t) n
below_more c t u n is = omega (arith, is)

here_more : (b : Bool) (n t : ℕ) → max n t ≡ max (max (cond b n 0) t) n
here_more true n t = omega arith
here_more false n t = omega arith

module _ (f g : ℕ → Bool) (position : ℕ) (is : (p : ℕ) → g p ≡ (p == position || f p)) where
  other_same : (p : ℕ) → p ≢ position → g p ≡ f p
  other_same p other = is p ∙ ap (λ b. b || f p) (other_number p position other)

  behind_same : (a : Arrival) (xs : List Arrival) → position ≤ a.position → AllByRecursion (λ (b : Arrival). by_position a b ≡ Less) xs → AllByRecursion (λ (b : Arrival). g b.position ≡ f b.position) xs
  behind_same a [] le all = tt
  behind_same a (b ∷ xs) le all = (other_same b.position (λ same. omega (arith, same, le, cmp_less a.position b.position all.0)), behind_same a xs le all.1)

  -- where one position more passes, the number of its arrival counts too
  pub greatest_where-more : (xs : List Arrival) → IsRising by_position xs → greatest_where g xs ≡ max (greatest_where f xs) (arrival_number (find_at (arrival_beside position) xs))
  greatest_where-more [] rising = refl
  greatest_where-more (x ∷ xs) rising = go (arrival_beside position x) refl (greatest_where-more xs rising.1)
    where
      rest : position ≤ x.position → greatest_where g xs ≡ greatest_where f xs
      rest le = greatest_where-same g f xs (behind_same x xs le rising.0)

      go : (o : Ordering) → arrival_beside position x ≡ o → greatest_where g xs ≡ max (greatest_where f xs) (arrival_number (find_at (arrival_beside position) xs))
          → greatest_where g (x ∷ xs) ≡ max (greatest_where f (x ∷ xs)) (arrival_number (found_here o x (find_at (arrival_beside position) xs)))
      go Less at later =
          rw (other_same x.position (λ same. omega (arith, same, cmp_less x.position position at)))
          (below_more (cond (f x.position) x.number 0) (greatest_where f xs) (greatest_where g xs) (arrival_number (find_at (arrival_beside position) xs)) later)
      go Equal at later =
          let same : x.position ≡ position = cmp_equal x.position position at in
          let here : g x.position ≡ true = is x.position ∙ ap (λ b. b || f x.position) (same_number x.position position same) in
          rw (here, rest (omega (arith, same))) (here_more (f x.position) x.number (greatest_where f xs))
      go Greater at later =
          let above : position < x.position = cmp_greater x.position position at in
          rw (other_same x.position (λ same. omega (arith, same, above)), rest (omega (arith, above))) (omega arith)
