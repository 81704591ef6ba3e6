-- Neighbours that have at least 32 values, after an edit of the pages.
use Rattle.std.proofs.Common.{◌≡◌, ℕ, zero, suc, ◌+◌, ◌*◌, ◌<◌, ◌≤◌, List, [], ◌∷◌, length, get_or, set, refl, ap, arith}
use Rattle.std.specs.List.{AllByRecursion, insert, remove}
use Rattle.std.proofs.lemmas.List.{length-append}
use Rattle.page_tables.specs.Pages.{page_values, most_in, IsPage, IsCloseTo, AreClose}

module _ {X : Type 0} where
  -- a page that is longer than another one
  close_longer : (p q : List X) (ps : List (List X)) → length p ≤ length q → IsCloseTo p ps → IsCloseTo q ps
  close_longer p q [] longer close = tt
  close_longer p q (r ∷ rs) longer close = omega (arith, longer, close)

  -- half a page is close to any
  close_half : (p : List X) (ps : List (List X)) → 32 ≤ length p → IsCloseTo p ps
  close_half p [] half = tt
  close_half p (r ∷ rs) half = omega (arith, half)

  -- a page that gets longer
  pub close-set : (pages : List (List X)) (i : ℕ) (page : List X) → i < length pages → length (get_or pages i []) ≤ length page → AreClose pages → AreClose (set pages i page)
  close-set [] i page within longer close = absurd (omega (arith, within))
  close-set (q ∷ qs) zero page within longer close = (close_longer q page qs longer close.0, close.1)
  close-set (q ∷ []) (suc i) page within longer close = absurd (omega (arith, within))
  close-set (q ∷ r ∷ rs) (suc zero) page within longer close = (let far = close.0 in omega (arith, longer, far), close-set (r ∷ rs) zero page (omega (arith, within)) longer close.1)
  close-set (q ∷ r ∷ rs) (suc (suc i)) page within longer close = (close.0, close-set (r ∷ rs) (suc i) page (omega (arith, within)) longer close.1)

  -- a page in two halves
  pub close-split : (pages : List (List X)) (i : ℕ) (a b : List X) → i < length pages → 32 ≤ length a → 32 ≤ length b → AreClose pages → AreClose (insert (set pages i a) (suc i) b)
  close-split [] i a b within half_a half_b close = absurd (omega (arith, within))
  close-split (q ∷ qs) zero a b within half_a half_b close = (omega (arith, half_a), (close_half b qs half_b, close.1))
  close-split (q ∷ []) (suc i) a b within half_a half_b close = absurd (omega (arith, within))
  close-split (q ∷ r ∷ rs) (suc zero) a b within half_a half_b close = (omega (arith, half_a), close-split (r ∷ rs) zero a b (omega (arith, within)) half_a half_b close.1)
  close-split (q ∷ r ∷ rs) (suc (suc i)) a b within half_a half_b close = (close.0, close-split (r ∷ rs) (suc i) a b (omega (arith, within)) half_a half_b close.1)

  -- a page that gets shorter, where both its neighbours stay close
  pub close-set_kept : (pages : List (List X)) (i : ℕ) (page : List X) → i < length pages → (suc i < length pages → 32 ≤ length page + length (get_or pages (suc i) []))
      → ((j : ℕ) → suc j ≡ i → 32 ≤ length (get_or pages j []) + length page) → AreClose pages → AreClose (set pages i page)
  close-set_kept [] i page within next before close = absurd (omega (arith, within))
  close-set_kept (q ∷ []) zero page within next before close = (tt, tt)
  close-set_kept (q ∷ r ∷ rs) zero page within next before close = (next (omega arith), close.1)
  close-set_kept (q ∷ []) (suc i) page within next before close = absurd (omega (arith, within))
  close-set_kept (q ∷ r ∷ rs) (suc zero) page within next before close = (before 0 refl, close-set_kept (r ∷ rs) zero page (omega (arith, within)) (λ more. next (omega (arith, more))) (λ j e. absurd (omega (arith, e))) close.1)
  close-set_kept (q ∷ r ∷ rs) (suc (suc i)) page within next before close =
      (close.0, close-set_kept (r ∷ rs) (suc i) page (omega (arith, within)) (λ more. next (omega (arith, more))) (λ j e. before (suc j) (ap suc e)) close.1)

  -- a page of one value is taken out
  pub close-remove : (pages : List (List X)) (i : ℕ) → i < length pages → AllByRecursion IsPage pages → length (get_or pages i []) ≡ 1 → AreClose pages → AreClose (remove pages i)
  close-remove [] i within filled one close = absurd (omega (arith, within))
  close-remove (q ∷ qs) zero within filled one close = close.1
  close-remove (q ∷ []) (suc i) within filled one close = absurd (omega (arith, within))
  close-remove (q ∷ r ∷ []) (suc zero) within filled one close = (tt, tt)
  close-remove (q ∷ r ∷ s ∷ ss) (suc zero) within filled one close = (let a = close.0 in let b = close.1.0 in omega (arith, one, a, b), close.1.1)
  close-remove (q ∷ r ∷ rs) (suc (suc i)) within filled one close = (close.0, close-remove (r ∷ rs) (suc i) (omega (arith, within)) filled.1 one close.1)

  -- two neighbours in one page
  pub close-join : (pages : List (List X)) (i : ℕ) (page : List X) → suc i < length pages → length (get_or pages i []) ≤ length page → length (get_or pages (suc i) []) ≤ length page
      → AreClose pages → AreClose (set (remove pages (suc i)) i page)
  close-join [] i page within here next close = absurd (omega (arith, within))
  close-join (q ∷ []) i page within here next close = absurd (omega (arith, within))
  close-join (q ∷ r ∷ rs) zero page within here next close = (close_longer r page rs next close.1.0, close.1.1)
  close-join (q ∷ r ∷ []) (suc i) page within here next close = absurd (omega (arith, within))
  close-join (q ∷ r ∷ s ∷ ss) (suc zero) page within here next close = (let far = close.0 in omega (arith, here, far), close-join (r ∷ s ∷ ss) zero page (omega (arith, within)) here next close.1)
  close-join (q ∷ r ∷ s ∷ ss) (suc (suc i)) page within here next close = (close.0, close-join (r ∷ s ∷ ss) (suc i) page (omega (arith, within)) here next close.1)

  -- so there are not many pages
  twice_count : (page : List X) (pages : List (List X)) → AreClose (page ∷ pages) → 32 * length pages + length page ≤ 2 * length (page_values (page ∷ pages))
  twice_count page [] close = let both = length-append page [] in omega (arith, both)
  twice_count page (next ∷ pages) close =
      let rest = twice_count next pages close.1 in
      let both = length-append page (page_values (next ∷ pages)) in
      let near = close.0 in
      omega (arith, rest, both, near)

  pub close_count : (pages : List (List X)) → AreClose pages → most_in (length pages) ≤ length (page_values pages)
  close_count [] close = omega arith
  close_count (page ∷ pages) close = let twice = twice_count page pages close in omega (arith, twice)

  -- and where there is room for one more value, a page waits
  pub page_waits : (pages waiting : List (List X)) → AreClose pages → length (page_values pages) < most_in (length pages + length waiting) → 1 ≤ length waiting
  page_waits pages waiting close room = let few = close_count pages close in omega (arith, few, room)
