-- The keys that a test leaves of a log, their order and their number.
use Rattle.std.proofs.Common.{◌≡◌, ℕ, suc, ◌+◌, Bool, true, false, cond, Result, Ok, Err, IfOk, List, [], ◌∷◌, length, map, refl, arith}
use Rattle.std.specs.Prelude.{nat_le, nat_lt}
use Rattle.std.specs.List.{AllByRecursion, filter}
use Rattle.std.specs.declared.cmp.Ordering.TheVariants.{Less}
use Rattle.std.proofs.lemmas.Bool.Decides.{nat_tests}
use Rattle.rep_lists.specs.Rising.{IsRising}
use Rattle.rep_values.specs.Order.{key_cmp}
use Rattle.change_logs.specs.LogState.{LoggedKey}
use Rattle.change_logs.specs.Logs.{by_key, count_up_to}

-- the keys alone rise as the logged keys do
rising_keys : (xs : List LoggedKey) → IsRising by_key xs → IsRising key_cmp (map (λ (logged : LoggedKey). logged.key) xs)
rising_keys [] rising = tt
rising_keys (x ∷ xs) rising = (below xs rising.0, rising_keys xs rising.1)
  where
    below : (ys : List LoggedKey) → AllByRecursion (λ y. by_key x y ≡ Less) ys → AllByRecursion (λ k. key_cmp x.key k ≡ Less) (map (λ (logged : LoggedKey). logged.key) ys)
    below [] all = tt
    below (y ∷ ys) all = (all.0, below ys all.1)

module _ (test : LoggedKey → Bool) where
  pub all_left : (P : LoggedKey → Type 0) (xs : List LoggedKey) → AllByRecursion P xs → AllByRecursion P (filter test xs)
  all_left P [] all = tt
  all_left P (x ∷ xs) all = go (test x) (all_left P xs all.1)
    where
      go : (b : Bool) → AllByRecursion P (filter test xs) → AllByRecursion P (cond b (x ∷ filter test xs) (filter test xs))
      go true later = (all.0, later)
      go false later = later

  -- what is left rises
  pub rising_left : (xs : List LoggedKey) → IsRising by_key xs → IsRising by_key (filter test xs)
  rising_left [] rising = tt
  rising_left (x ∷ xs) rising = go (test x) (rising_left xs rising.1)
    where
      go : (b : Bool) → IsRising by_key (filter test xs) → IsRising by_key (cond b (x ∷ filter test xs) (filter test xs))
      go true later = (all_left (λ y. by_key x y ≡ Less) xs rising.0, later)
      go false later = later

  -- and so do its keys
  pub rising_keys_left : (xs : List LoggedKey) → IsRising by_key xs → IsRising key_cmp (map (λ (logged : LoggedKey). logged.key) (filter test xs))
  rising_keys_left xs rising = rising_keys (filter test xs) (rising_left xs rising)

-- the keys above a mark and those up to it are all
pub count_up_to-rest : (mark : ℕ) (xs : List LoggedKey) → length (filter (λ (logged : LoggedKey). nat_lt mark logged.moment) xs) + count_up_to mark xs ≡ length xs
count_up_to-rest mark [] = refl
count_up_to-rest mark (x ∷ xs) = go (nat_lt mark x.moment) (nat_le x.moment mark) refl refl (count_up_to-rest mark xs)
  where
    above : List LoggedKey
    above = filter (λ (logged : LoggedKey). nat_lt mark logged.moment) xs

    go : (a b : Bool) → nat_lt mark x.moment ≡ a → nat_le x.moment mark ≡ b → length above + count_up_to mark xs ≡ length xs
        → length (cond a (x ∷ above) above) + cond b (count_up_to mark xs + 1) (count_up_to mark xs) ≡ suc (length xs)
    go true true lt le later = absurd (grind (arith, nat_tests, lt, le))
    go true false lt le later = omega (arith, later)
    go false true lt le later = omega (arith, later)
    go false false lt le later = absurd (grind (arith, nat_tests, lt, le))

-- what holds of an answer that was given, as far as it follows from what was known
pub given_weaker : {X E : Type 0} (P Q : X → Type 0) → ((x : X) → P x → Q x) → (answer : Result X E) → IfOk answer P → IfOk answer Q
given_weaker P Q weaker (Ok x) holds = weaker x holds
given_weaker P Q weaker (Err e) holds = tt
