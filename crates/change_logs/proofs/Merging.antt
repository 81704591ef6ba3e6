-- Rising keys among others: which key of the two lists comes first.
use Rattle.std.proofs.Common.{◌≡◌, ℕ, ◌+◌, ◌<◌, ◌≤◌, List, [], ◌∷◌, ◌++◌, length, get_or, drop, Result, Ok, Err, IfOk, refl, sym, ap, ◌∙◌}
use Rattle.std.proofs.lemmas.List.{append-nil, drop_all}
use Rattle.rep_lists.proofs.Places.{drop_from_place}
use Rattle.std.specs.List.{AllByRecursion}
use Rattle.std.specs.declared.cmp.Ordering.TheVariants.{Less, Equal, Greater}
use Rattle.rep_lists.specs.Rising.{IsRising, put_at}
use Rattle.rep_lists.proofs.Each.{each_then}
use Rattle.rep_values.specs.Order.{key_cmp}
use Rattle.rep_values.specs.OrderLaws.{key_cmp_total}
use Rattle.rep_schema.specs.Tables.{Cells}
use Rattle.change_logs.specs.Noting.{with_keys}
use Rattle.change_logs.proofs.RisingKeys.{rising-with_keys}
use Rattle.change_logs.proofs.RisingNotes.{rising_drop}

-- a key below all that come among others stays in front of them
behind : (y : Cells) (more ys : List Cells) → AllByRecursion (λ k. key_cmp y k ≡ Less) more → with_keys more (y ∷ ys) ≡ y ∷ with_keys more ys
behind y [] ys below = refl
behind y (k ∷ more) ys below = rw below.0 (behind y more (put_at (λ j. key_cmp j k) k ys) below.1)

-- the first of the keys comes first where it is below the first that comes
pub with_keys-less : (x y : Cells) (xs ys : List Cells) → IsRising key_cmp (x ∷ xs) → key_cmp y x ≡ Less → with_keys (x ∷ xs) (y ∷ ys) ≡ y ∷ with_keys (x ∷ xs) ys
with_keys-less x y xs ys rising less = behind y (x ∷ xs) ys (less, each_then (λ k. key_cmp x k ≡ Less) (λ k. key_cmp y k ≡ Less) (λ k below. key_cmp_total.trans y x k less below) xs rising.0)

-- where they are one, it comes once
pub with_keys-equal : (x y : Cells) (xs ys : List Cells) → IsRising key_cmp (x ∷ xs) → key_cmp y x ≡ Equal → with_keys (x ∷ xs) (y ∷ ys) ≡ x ∷ with_keys xs ys
with_keys-equal x y xs ys rising equal = rw equal (behind x xs ys rising.0)

-- else the other comes first
pub with_keys-greater : (x y : Cells) (xs ys : List Cells) → IsRising key_cmp (x ∷ xs) → key_cmp y x ≡ Greater → with_keys (x ∷ xs) (y ∷ ys) ≡ x ∷ with_keys xs (y ∷ ys)
with_keys-greater x y xs ys rising greater = rw greater (behind x xs (y ∷ ys) rising.0)

-- rising keys that come among none
pub with_keys-none : (xs : List Cells) → IsRising key_cmp xs → with_keys xs [] ≡ xs
with_keys-none [] rising = refl
with_keys-none (x ∷ xs) rising = behind x xs [] rising.0 ∙ ap (λ ks. x ∷ ks) (with_keys-none xs rising.1)

-- keys that are given rise, if they are rising ones with others among them
pub rises_given : {E : Type 0} (more keys : List Cells) (given : Result (List Cells) E) → IsRising key_cmp keys → IfOk given (λ all. all ≡ with_keys more keys) → IfOk given (IsRising key_cmp)
rises_given more keys (Ok all) rising is = rw is (rising-with_keys more keys rising)
rises_given more keys (Err e) rising is = tt

-- the keys that are left of two lists
module _ (more keys : List Cells) (rising : IsRising key_cmp more) (next place : ℕ) where
  -- where both have a next one
  module _ (x y : Cells) (within : next < length more) (x_is : x ≡ get_or more next x) (inside : place < length keys) (y_is : y ≡ get_or keys place y) where
    rest_is : drop next more ≡ x ∷ drop (next + 1) more
    rest_is = drop_from_place more next x within x_is

    left_is : drop place keys ≡ y ∷ drop (place + 1) keys
    left_is = drop_from_place keys place y inside y_is

    rest_rises : IsRising key_cmp (x ∷ drop (next + 1) more)
    rest_rises = rw rest_is at (rising_drop next more rising)

    pub left-less : key_cmp y x ≡ Less → with_keys (drop next more) (drop place keys) ≡ y ∷ with_keys (drop next more) (drop (place + 1) keys)
    left-less less = rw (rest_is, left_is) (with_keys-less x y (drop (next + 1) more) (drop (place + 1) keys) rest_rises less)

    pub left-equal : key_cmp y x ≡ Equal → with_keys (drop next more) (drop place keys) ≡ x ∷ with_keys (drop (next + 1) more) (drop (place + 1) keys)
    left-equal equal = rw (rest_is, left_is) (with_keys-equal x y (drop (next + 1) more) (drop (place + 1) keys) rest_rises equal)

    pub left-greater : key_cmp y x ≡ Greater → with_keys (drop next more) (drop place keys) ≡ x ∷ with_keys (drop (next + 1) more) (drop place keys)
    left-greater greater = rw (rest_is, left_is) (with_keys-greater x y (drop (next + 1) more) (drop (place + 1) keys) rest_rises greater)

  -- where none is left that comes
  pub left-no_more : (all : List Cells) → length more ≤ next → (all ++ drop next more) ++ drop place keys ≡ all ++ with_keys (drop next more) (drop place keys)
  left-no_more all past = rw (drop_all next more past, append-nil all) refl

  -- where none is left among which they come
  pub left-no_keys : (all : List Cells) → length keys ≤ place → (all ++ drop next more) ++ drop place keys ≡ all ++ with_keys (drop next more) (drop place keys)
  left-no_keys all past = rw (drop_all place keys past) (append-nil (all ++ drop next more) ∙ ap (λ ks. all ++ ks) (sym (with_keys-none (drop next more) (rising_drop next more rising))))
