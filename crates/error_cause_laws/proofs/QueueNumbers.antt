-- Numbers of a queue and positions of its streams.
use Rattle.std.proofs.Common.{◌≡◌, ℕ, ◌+◌, ◌-◌, ◌<◌, ◌≤◌, ◌==◌, List, [], ◌∷◌, length, Bool, true, false, cond, Some, refl, sym, arith}
use Rattle.std.specs.Prelude.{nat_lt}
use Rattle.std.proofs.lemmas.Bool.Decides.{nat_tests}
use Rattle.rep_calls.specs.declared.call.Call.{Call}
use Rattle.rep_calls.specs.declared.call.Txn.{Txn}
use Rattle.deferred_queue.specs.Streams.{at_position}
use Rattle.deferred_queue.proofs.Sites.{eq_true}
use Rattle.deferred_queue.proofs.Positions.{found_position}
use Rattle.site_state.specs.Streams.{with_one, queued_behind}
use Rattle.site_state.proofs.Growing.{length-queued_behind, at_position-append}
use Rattle.error_cause_laws.proofs.OneTimeWrites.{signs_of, signs_queued}

-- a number behind a count is a position of what was queued behind it
pub position_behind : {X : Type 0} (count number : ℕ) (xs : List X) (x : X) → at_position number xs ≡ Some x → count < number → at_position (number - count) (queued_behind count xs) ≡ Some x
position_behind count number [] x at less = cc
position_behind {X} count number (y ∷ ys) x at less = go (number == length ys + 1) refl at (λ at. position_behind count number ys x at less)
  where
    go : (b : Bool) → (number == length ys + 1) ≡ b → cond b (Some y) (at_position number ys) ≡ Some x → (at_position number ys ≡ Some x → at_position (number - count) (queued_behind count ys) ≡ Some x)
        → at_position (number - count) (with_one (nat_lt count (length ys + 1)) y (queued_behind count ys)) ≡ Some x
    go true is at later =
        let last : number ≡ length ys + 1 = grind (arith, nat_tests) in
        let behind : nat_lt count (length ys + 1) ≡ true = grind (arith, nat_tests, last, less) in
        let long : length (queued_behind count ys) + count ≡ length ys = length-queued_behind count ys (omega (arith, last, less)) in
        let here : (number - count == length (queued_behind count ys) + 1) ≡ true = eq_true (number - count) (length (queued_behind count ys) + 1) (omega (arith, last, long, less)) in
        rw (behind, here) at
    go false is at later =
        let place : number ≤ length ys = (found_position number ys x at).1 in
        let behind : nat_lt count (length ys + 1) ≡ true = grind (arith, nat_tests, place, less) in
        rw behind (at_position-append (y ∷ []) (queued_behind count ys) (number - count) x (later at))

-- the newest is at the last position
pub newest : {X : Type 0} (x : X) (xs : List X) → at_position (length xs + 1) (x ∷ xs) ≡ Some x
newest x xs = rw (eq_true (length xs + 1) (length xs + 1) refl) refl

-- with at most one more in front, a position is an older one or that of the new one
pub data Stands {X : Type 0} (b : Bool) (x : X) (xs : List X) (p : ℕ) (y : X) : Type 0 where
  Older : at_position p xs ≡ Some y → Stands b x xs p y
  Newest : b ≡ true → p ≡ length xs + 1 → y ≡ x → Stands b x xs p y

pub stands : {X : Type 0} (b : Bool) (x : X) (xs : List X) (p : ℕ) (y : X) → at_position p (with_one b x xs) ≡ Some y → Stands b x xs p y
stands false x xs p y at = Older at
stands {X} true x xs p y at = go (p == length xs + 1) refl at
  where
    go : (b : Bool) → (p == length xs + 1) ≡ b → cond b (Some x) (at_position p xs) ≡ Some y → Stands true x xs p y
    go true is at = let same : x ≡ y = cc in Newest refl (grind (arith, nat_tests)) (sym same)
    go false is at = Older at

-- what stands at a position stands there with one more in front
pub still_stands : {X : Type 0} (b : Bool) (x : X) (xs : List X) (p : ℕ) (y : X) → at_position p xs ≡ Some y → at_position p (with_one b x xs) ≡ Some y
still_stands true x xs p y at = at_position-append (x ∷ []) xs p y at
still_stands false x xs p y at = at

-- ---- signs

module _ (count : Call → ℕ) where
  -- where a queue has a sign, one of its transactions has it
  pub sign_stands : (txns : List Txn) → 1 ≤ signs_queued count txns → (m : ℕ) × (u : Txn) × (at_position m txns ≡ Some u) × (1 ≤ signs_of count u)
  sign_stands [] some = absurd (omega (arith, some))
  sign_stands (t ∷ ts) some = go (nat_lt 0 (signs_of count t)) refl (sign_stands ts)
    where
      go : (b : Bool) → nat_lt 0 (signs_of count t) ≡ b → (1 ≤ signs_queued count ts → (m : ℕ) × (u : Txn) × (at_position m ts ≡ Some u) × (1 ≤ signs_of count u))
          → (m : ℕ) × (u : Txn) × (at_position m (t ∷ ts) ≡ Some u) × (1 ≤ signs_of count u)
      go true is later = (length ts + 1, t, newest t ts, grind (arith, nat_tests))
      go false is later =
          let none : signs_of count t ≡ 0 = grind (arith, nat_tests) in
          let found = later (omega (arith, some, none)) in
          (found.0, found.1, at_position-append (t ∷ []) ts found.0 found.1 found.2, found.3)
