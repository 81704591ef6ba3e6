-- The low-water mark, computed position by position.
use Rattle.std.proofs.Common.{◌≡◌, ℕ, zero, suc, ◌+◌, ◌<◌, ◌≤◌, ◌==◌, ◌&&◌, Bool, true, false, cond, refl, inl, inr, arith}
use Rattle.std.proofs.lemmas.Bool.{cases_lt}
use Rattle.std.proofs.lemmas.Bool.Decides.{nat_tests}
use Rattle.origin_marks.specs.Marks.{IsLowWater, IsHighest, low_up_to}
use Rattle.origin_marks.specs.MarkLaws.{LowWaterIsComputed}

-- all up to it are finished, it isn't behind the bound, and before the bound the next one isn't finished
record IsLowUpTo (f : ℕ → Bool) (bound n : ℕ) : Type 0 where
  below : (p : ℕ) → 0 < p → p ≤ n → f p ≡ true
  within : n ≤ bound
  next : n < bound → f (n + 1) ≡ false

is_low_up_to : (f : ℕ → Bool) (bound : ℕ) → IsLowUpTo f bound (low_up_to f bound)
is_low_up_to f zero = record { below = λ p from_one up_to. absurd (omega (arith, from_one, up_to)); within = omega arith; next = λ less. absurd (omega (arith, less)) }
is_low_up_to f (suc bound) = go (low_up_to f bound == bound) refl (f (suc bound)) refl (is_low_up_to f bound)
  where
    go : (all : Bool) → (low_up_to f bound == bound) ≡ all → (here : Bool) → f (suc bound) ≡ here → IsLowUpTo f bound (low_up_to f bound)
        → IsLowUpTo f (suc bound) (cond (all && here) (suc bound) (low_up_to f bound))
    go true full true is before = record {
      below = λ p from_one up_to. elim (cases_lt p (suc bound)) [
        | inl less ↦ before.below p from_one (grind (arith, nat_tests))
        | inr reached ↦ let last : p ≡ suc bound = omega (arith, reached, up_to) in rw last is
      ];
      within = omega arith;
      next = λ less. absurd (omega (arith, less));
    }
    go true full false is before =
        let at_bound : low_up_to f bound ≡ bound = grind (arith, nat_tests) in
        let next_one : low_up_to f bound + 1 ≡ suc bound = omega (arith, at_bound) in
        record { below = before.below; within = omega (arith, before.within); next = λ less. rw next_one is }
    go false gap here is before =
        let less : low_up_to f bound < bound = grind (arith, nat_tests, before.within) in
        record { below = before.below; within = omega (arith, before.within); next = λ lower. before.next less }

-- the mark that is computed up to the highest is the low-water mark
pub low_water_is_computed : LowWaterIsComputed
low_water_is_computed = λ f highest is.
    let mark = is_low_up_to f highest in
    record {
      below = mark.below;
      next = elim (cases_lt (low_up_to f highest) highest) [
        | inl less ↦ mark.next less
        | inr reached ↦ is.above (low_up_to f highest + 1) (omega (arith, reached))
      ];
    }
