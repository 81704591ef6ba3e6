-- What two low-water marks have to do with each other.
use Rattle.std.proofs.Common.{◌≡◌, ℕ, ◌+◌, ◌<◌, Bool, true, false, inl, inr, arith}
use Rattle.std.proofs.lemmas.Bool.{cases_lt}
use Rattle.origin_marks.specs.Marks.{IsLowWater}

-- no mark is below another one of the same positions
not_below : (f : ℕ → Bool) (m n : ℕ) → IsLowWater f m → IsLowWater f n → m < n → ⊥
not_below f m n is_m is_n lt = let holds : f (m + 1) ≡ true = is_n.below (m + 1) (omega arith) (omega arith) in let not_holds : f (m + 1) ≡ false = is_m.next in cc

pub same_mark : (f : ℕ → Bool) (m n : ℕ) → IsLowWater f m → IsLowWater f n → m ≡ n
same_mark f m n is_m is_n = elim (cases_lt m n) [
  | inl lt ↦ absurd (not_below f m n is_m is_n lt)
  | inr le ↦ elim (cases_lt n m) [
    | inl lt ↦ absurd (not_below f n m is_n is_m lt)
    | inr ge ↦ omega arith
  ]
]
