-- What is found by key in a rising list, after a put and after a take, and that it determines the list.
use Rattle.std.proofs.Common.{◌≡◌, ◌≢◌, List, [], ◌∷◌, Option, Some, None, refl, sym, ap, ◌∙◌}
use Rattle.std.specs.List.{AllByRecursion}
use Rattle.std.specs.Cmp.{IsTotalOrder}
use Rattle.std.specs.Ordering.{ordering_reverse}
use Rattle.std.specs.declared.cmp.Ordering.{Ordering}
use Rattle.std.specs.declared.cmp.Ordering.TheVariants.{Less, Equal, Greater}
use Rattle.std.proofs.lemmas.Cmp.{tied_itself}
use Rattle.rep_lists.specs.Rising.{find_at, put_at, take_at, found_here, put_here, taken_here}
use Rattle.rep_lists.specs.RisingLaws.{at_key, RisesBy}
use Rattle.rep_lists.proofs.Rising.{find_put}

-- past a place, it makes no difference which value stands there
found_here-past : {X : Type 0} (o : Ordering) (x y : X) (rest : Option X) → o ≢ Equal → found_here o x rest ≡ found_here o y rest
found_here-past Less x y rest past = refl
found_here-past Equal x y rest past = absurd (past refl)
found_here-past Greater x y rest past = refl

module _ {X K : Type 0} (key : X → K) (R : K → K → Ordering) (total : IsTotalOrder R) where
  below_above : (k j : K) → R k j ≡ Less → R j k ≡ Greater
  below_above k j below = total.antisymm j k ∙ ap ordering_reverse below

  above_below : (k j : K) → R k j ≡ Greater → R j k ≡ Less
  above_below k j above = total.antisymm j k ∙ ap ordering_reverse above

  -- what is above a value is above each key that the value isn't below
  above_key : (k : K) (x z : X) → R (key x) k ≢ Less → R (key x) (key z) ≡ Less → R (key z) k ≡ Greater
  above_key k x z past below = go (R (key x) k) refl
    where
      go : (o : Ordering) → R (key x) k ≡ o → R (key z) k ≡ Greater
      go Less place = absurd (past place)
      go Equal place = below_above k (key z) (sym (total.congr (key x) k (key z) place) ∙ below)
      go Greater place = below_above k (key z) (total.trans k (key x) (key z) (above_below (key x) k place) below)

  -- so the key isn't found behind that value
  find_behind : (k : K) (x : X) (xs : List X) → R (key x) k ≢ Less → AllByRecursion (λ z. R (key x) (key z) ≡ Less) xs → find_at (at_key key R k) xs ≡ None
  find_behind k x [] past all = refl
  find_behind k x (z ∷ zs) past all = rw (above_key k x z past all.0)

  -- a value that was put is found under its key
  pub find_put_own : (y : X) (xs : List X) → find_at (at_key key R (key y)) (put_at (at_key key R (key y)) y xs) ≡ Some y
  find_put_own y xs = find_put (at_key key R (key y)) y xs (tied_itself total (key y))

  -- under another key the same is found as before the put
  pub find_put_other : (y : X) (k : K) (xs : List X) → R (key y) k ≢ Equal → find_at (at_key key R k) (put_at (at_key key R (key y)) y xs) ≡ find_at (at_key key R k) xs
  find_put_other y k [] other = found_here-none (R (key y) k) other
    where
      found_here-none : (o : Ordering) → o ≢ Equal → found_here o y None ≡ None
      found_here-none Less other = refl
      found_here-none Equal other = absurd (other refl)
      found_here-none Greater other = refl
  find_put_other y k (x ∷ xs) other = go (R (key x) (key y)) refl (find_put_other y k xs other)
    where
      above : (o : Ordering) → R (key y) k ≡ o → R (key x) (key y) ≡ Greater → found_here o y (found_here (R (key x) k) x (find_at (at_key key R k) xs)) ≡ found_here (R (key x) k) x (find_at (at_key key R k) xs)
      above Less place e = refl
      above Equal place e = absurd (other place)
      above Greater place e = rw (below_above k (key x) (total.trans k (key y) (key x) (above_below (key y) k place) (above_below (key x) (key y) e)))

      go : (o : Ordering) → R (key x) (key y) ≡ o → find_at (at_key key R k) (put_at (at_key key R (key y)) y xs) ≡ find_at (at_key key R k) xs
          → find_at (at_key key R k) (put_here o y x xs (put_at (at_key key R (key y)) y xs)) ≡ found_here (R (key x) k) x (find_at (at_key key R k) xs)
      go Less e later = ap (found_here (R (key x) k) x) later
      go Equal e later = rw (total.congr (key x) (key y) k e) (found_here-past (R (key y) k) y x (find_at (at_key key R k) xs) other)
      go Greater e later = above (R (key y) k) refl e

  -- after a take nothing is found under its key
  pub find_take : (k : K) (xs : List X) → RisesBy key R xs → find_at (at_key key R k) (take_at (at_key key R k) xs) ≡ None
  find_take k [] rising = refl
  find_take k (x ∷ xs) rising = go (R (key x) k) refl (find_take k xs rising.1)
    where
      go : (o : Ordering) → R (key x) k ≡ o → find_at (at_key key R k) (take_at (at_key key R k) xs) ≡ None → find_at (at_key key R k) (taken_here o x xs (take_at (at_key key R k) xs)) ≡ None
      go Less place later = rw place later
      go Equal place later = find_behind k x xs (λ less. cc) rising.0
      go Greater place later = rw place

  -- under another key the same is found as before the take
  pub find_take_other : (k j : K) (xs : List X) → RisesBy key R xs → R k j ≢ Equal → find_at (at_key key R j) (take_at (at_key key R k) xs) ≡ find_at (at_key key R j) xs
  find_take_other k j [] rising other = refl
  find_take_other k j (x ∷ xs) rising other = go (R (key x) k) refl (find_take_other k j xs rising.1 other)
    where
      taken : (o : Ordering) → R (key x) j ≡ o → o ≢ Equal → find_at (at_key key R j) xs ≡ found_here o x (find_at (at_key key R j) xs)
      taken Less place past = refl
      taken Equal place past = absurd (past refl)
      taken Greater place past = find_behind j x xs (λ less. cc) rising.0

      go : (o : Ordering) → R (key x) k ≡ o → find_at (at_key key R j) (take_at (at_key key R k) xs) ≡ find_at (at_key key R j) xs
          → find_at (at_key key R j) (taken_here o x xs (take_at (at_key key R k) xs)) ≡ found_here (R (key x) j) x (find_at (at_key key R j) xs)
      go Less place later = ap (found_here (R (key x) j) x) later
      go Equal place later = taken (R (key x) j) refl (λ same. other (sym (total.congr (key x) k j place) ∙ same))
      go Greater place later = refl

  -- two rising lists in which the same is found under every key are the same
  pub same_from_finds : (xs ys : List X) → RisesBy key R xs → RisesBy key R ys → ((k : K) → find_at (at_key key R k) xs ≡ find_at (at_key key R k) ys) → xs ≡ ys
  same_from_finds [] [] rising_xs rising_ys finds = refl
  same_from_finds [] (y ∷ ys) rising_xs rising_ys finds = let nothing = rw (tied_itself total (key y)) at (finds (key y)) in cc
  same_from_finds (x ∷ xs) [] rising_xs rising_ys finds = let nothing = rw (tied_itself total (key x)) at (finds (key x)) in cc
  same_from_finds (x ∷ xs) (y ∷ ys) rising_xs rising_ys finds = go (R (key x) (key y)) refl (same_from_finds xs ys rising_xs.1 rising_ys.1)
    where
      -- the first values have one key, so the rest of both lists finds the same
      rest : R (key x) (key y) ≡ Equal → (k : K) → (o : Ordering) → R (key x) k ≡ o → find_at (at_key key R k) xs ≡ find_at (at_key key R k) ys
      rest tied k Less place = let other : R (key y) k ≡ Less = sym (total.congr (key x) (key y) k tied) ∙ place in rw (place, other) at (finds k)
      rest tied k Equal place =
          let other : R (key y) k ≡ Equal = sym (total.congr (key x) (key y) k tied) ∙ place in
          find_behind k x xs (λ less. cc) rising_xs.0 ∙ sym (find_behind k y ys (λ less. cc) rising_ys.0)
      rest tied k Greater place =
          let other : R (key y) k ≡ Greater = sym (total.congr (key x) (key y) k tied) ∙ place in
          find_behind k x xs (λ less. cc) rising_xs.0 ∙ sym (find_behind k y ys (λ less. cc) rising_ys.0)

      go : (o : Ordering) → R (key x) (key y) ≡ o → (((k : K) → find_at (at_key key R k) xs ≡ find_at (at_key key R k) ys) → xs ≡ ys) → x ∷ xs ≡ y ∷ ys
      go Less e later = let found = rw (tied_itself total (key x), below_above (key x) (key y) e) at (finds (key x)) in cc
      go Equal e later =
          let back : R (key y) (key x) ≡ Equal = total.antisymm (key y) (key x) ∙ ap ordering_reverse e in
          let found = rw (tied_itself total (key x), back) at (finds (key x)) in
          let tails = later (λ k. rest e k (R (key x) k) refl) in
          cc
      go Greater e later = let found = rw (e, tied_itself total (key y)) at (finds (key y)) in cc
