-- A list whose values are replaced one after another by those of another list.
use Rattle.std.proofs.Common.{◌≡◌, ℕ, zero, suc, ◌+◌, ◌<◌, ◌≤◌, List, [], ◌∷◌, ◌++◌, length, get_or, set, take, drop, refl, ap, ◌∙◌, arith, add-one}
use Rattle.std.proofs.lemmas.List.{take_all, drop_all, append-nil}

module _ {X : Type 0} where
  -- the value at the place wasn't replaced yet
  pub not_yet : (xs ys : List X) (i : ℕ) (d : X) → length xs ≡ length ys → i ≤ length xs → get_or (take i xs ++ drop i ys) i d ≡ get_or ys i d
  not_yet xs ys zero d same within = refl
  not_yet [] ys (suc i) d same within = absurd (omega (arith, within))
  not_yet (x ∷ xs) [] (suc i) d same within = absurd (omega (arith, same))
  not_yet (x ∷ xs) (y ∷ ys) (suc i) d same within = not_yet xs ys i d (omega (arith, same)) (omega (arith, within))

  replaced_suc : (xs ys : List X) (i : ℕ) (d : X) → length xs ≡ length ys → i < length xs → set (take i xs ++ drop i ys) i (get_or xs i d) ≡ take (suc i) xs ++ drop (suc i) ys
  replaced_suc [] ys i d same within = absurd (omega (arith, within))
  replaced_suc (x ∷ xs) [] i d same within = absurd (omega (arith, same))
  replaced_suc (x ∷ xs) (y ∷ ys) zero d same within = refl
  replaced_suc (x ∷ xs) (y ∷ ys) (suc i) d same within = ap (λ (zs : List X). x ∷ zs) (replaced_suc xs ys i d (omega (arith, same)) (omega (arith, within)))

  -- it is replaced
  pub replaced_next : (xs ys now new : List X) (i : ℕ) (d : X) → length xs ≡ length ys → i < length xs → now ≡ take i xs ++ drop i ys → new ≡ set now i (get_or xs i d)
      → new ≡ take (i + 1) xs ++ drop (i + 1) ys
  replaced_next xs ys now new i d same within is step = step ∙ ap (λ (zs : List X). set zs i (get_or xs i d)) is ∙ rw add-one (replaced_suc xs ys i d same within)

  -- at the end all are
  pub all_replaced : (xs ys : List X) (i : ℕ) → length xs ≡ length ys → length xs ≤ i → take i xs ++ drop i ys ≡ xs
  all_replaced xs ys i same past =
      let over : length ys ≤ i = omega (arith, same, past) in
      rw (take_all i xs past, drop_all i ys over) (append-nil xs)
