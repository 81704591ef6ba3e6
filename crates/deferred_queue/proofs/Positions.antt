-- What stands at a position of a list with the newest first.
use Rattle.std.proofs.Common.{◌≡◌, ◌≢◌, ℕ, zero, suc, ◌+◌, ◌-◌, ◌<◌, ◌≤◌, ◌==◌, Bool, true, false, cond, List, [], ◌∷◌, ◌++◌, length, reverse, get_or, Some, None, refl, sym, ap, ◌∙◌, arith}
use Rattle.std.specs.Prelude.{slice_get}
use Rattle.std.proofs.lemmas.Bool.Decides.{nat_tests}
use Rattle.std.proofs.lemmas.List.{reverse-append, length-append}
use Rattle.std.proofs.lemmas.Option.{slice_get_read}
use Rattle.deferred_queue.specs.Streams.{at_position}
use Rattle.deferred_queue.proofs.Sites.{eq_false, eq_false_above}

module _ {X : Type 0} where
  -- no position is 0
  pub at_position-0 : (xs : List X) → at_position 0 xs ≡ None
  at_position-0 [] = refl
  at_position-0 (x ∷ xs) = rw (eq_false 0 (length xs + 1) (omega arith)) (at_position-0 xs)

  -- nor one behind the last
  pub at_position-above : (p : ℕ) (xs : List X) → length xs < p → at_position p xs ≡ None
  at_position-above p [] above = refl
  at_position-above p (x ∷ xs) above = rw (eq_false_above p (length xs + 1) (omega (arith, above))) (at_position-above p xs (omega (arith, above)))

  -- each from 1 to the last is one
  pub at_position-within : (p : ℕ) (xs : List X) → 1 ≤ p → p ≤ length xs → at_position p xs ≢ None
  at_position-within p [] from_one within = absurd (omega (arith, from_one, within))
  at_position-within p (x ∷ xs) from_one within = go (p == length xs + 1) refl (at_position-within p xs from_one)
    where
      go : (b : Bool) → (p == length xs + 1) ≡ b → (p ≤ length xs → at_position p xs ≢ None) → cond b (Some x) (at_position p xs) ≢ None
      go true is later = λ none. absurd (cc none)
      go false is later = later (grind (arith, nat_tests))

  -- so what is found stands at one of them
  pub found_position : (p : ℕ) (xs : List X) (x : X) → at_position p xs ≡ Some x → (1 ≤ p) × (p ≤ length xs)
  found_position p [] x found = absurd (cc found)
  found_position p (y ∷ ys) x found = go (p == length ys + 1) refl (found_position p ys x) found
    where
      go : (b : Bool) → (p == length ys + 1) ≡ b → (at_position p ys ≡ Some x → (1 ≤ p) × (p ≤ length ys)) → cond b (Some y) (at_position p ys) ≡ Some x → (1 ≤ p) × (p ≤ suc (length ys))
      go true is later there = (grind (arith, nat_tests), grind (arith, nat_tests))
      go false is later there = ((later there).0, omega (arith, (later there).1))

  oldest_first : (xs : List X) (x : X) → at_position 1 (xs ++ x ∷ []) ≡ Some x
  oldest_first [] x = refl
  oldest_first (y ∷ ys) x = rw (eq_false 1 (length (ys ++ x ∷ []) + 1) (omega (arith, length-append ys (x ∷ [])))) (oldest_first ys x)

  others_later : (xs : List X) (x : X) (k : ℕ) → at_position (suc (suc k)) (xs ++ x ∷ []) ≡ at_position (suc k) xs
  others_later [] x k = rw (eq_false_above (suc (suc k)) 1 (omega arith)) refl
  others_later (y ∷ ys) x k =
      let one_more : length (ys ++ x ∷ []) ≡ length ys + 1 = length-append ys (x ∷ []) in
      let same : (suc (suc k) == length (ys ++ x ∷ []) + 1) ≡ (suc k == length ys + 1) = rw one_more (grind (arith, nat_tests)) in
      rw (same, others_later ys x k) refl

  -- with the oldest first, the position is one more than the place
  pub at_position-reverse : (xs : List X) (k : ℕ) → at_position (suc k) (reverse xs) ≡ slice_get xs k
  at_position-reverse [] k = refl
  at_position-reverse (x ∷ xs) zero = rw (reverse-append (x ∷ []) xs) (oldest_first (reverse xs) x)
  at_position-reverse (x ∷ xs) (suc k) = rw (reverse-append (x ∷ []) xs) (others_later (reverse xs) x k ∙ at_position-reverse xs k)

  -- a value read at the place before
  pub at_position-read : (xs : List X) (p : ℕ) (x : X) → 1 ≤ p → p ≤ length xs → x ≡ get_or xs (p - 1) x → at_position p (reverse xs) ≡ Some x
  at_position-read xs p x from_one within is =
      let next : suc (p - 1) ≡ p = omega (arith, from_one) in
      ap (λ q. at_position q (reverse xs)) (sym next) ∙ at_position-reverse xs (p - 1) ∙ slice_get_read xs (length xs) (p - 1) x refl (omega (arith, from_one, within)) is
