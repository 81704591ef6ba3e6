-- A list with the newest first, read from the oldest on.
use Rattle.std.proofs.Common.{◌≡◌, ℕ, suc, ◌+◌, List, [], ◌∷◌, reverse, drop, Some, None, sym, ap, ◌∙◌, arith, inl, inr, drop_of_length-le}
use Rattle.std.specs.Prelude.{slice_get}
use Rattle.std.proofs.lemmas.List.{reverse-reverse}
use Rattle.std.proofs.lemmas.Option.{slice_get_cases}
use Rattle.rep_lists.proofs.Places.{drop_from_found}
use Rattle.deferred_queue.specs.Streams.{at_position}
use Rattle.deferred_queue.proofs.Positions.{at_position-reverse}

module _ {X : Type 0} (xs : List X) (place : ℕ) where
  at_place : at_position (place + 1) xs ≡ slice_get (reverse xs) place
  at_place =
      let next : place + 1 ≡ suc place = omega arith in
      ap (λ p. at_position p xs) next ∙ ap (at_position (suc place)) (sym (reverse-reverse xs)) ∙ at_position-reverse (reverse xs) place

  -- where nothing stands at a position, nothing is left
  pub none_left : at_position (place + 1) xs ≡ None → drop place (reverse xs) ≡ []
  none_left none = elim ((slice_get_cases (reverse xs) place).1) [
    | inl there ↦ absurd (let found = there.2 in let gone = sym at_place ∙ none in cc)
    | inr past ↦ drop_of_length-le (reverse xs) past.0
  ]

  -- what stands at a position comes next
  pub next_left : (x : X) → at_position (place + 1) xs ≡ Some x → drop place (reverse xs) ≡ x ∷ drop (place + 1) (reverse xs)
  next_left x found = drop_from_found (reverse xs) place x (sym at_place ∙ found)
