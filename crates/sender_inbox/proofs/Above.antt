-- The first arrival above a number, by where the number stands.
use Rattle.std.proofs.Common.{◌≡◌, ℕ, ◌+◌, List, get_or, inl, inr, arith}
use Rattle.std.specs.Ordering.{nat_cmp}
use Rattle.std.proofs.lemmas.Bool.{cases_lt}
use Rattle.std.proofs.lemmas.Cmp.{nat_cmp_total}
use Rattle.rep_lists.specs.Rising.{IsRising, IsThere, IsGap}
use Rattle.rep_lists.proofs.Rising.{rising_below}
use Rattle.origin_marks.proofs.Counts.{cmp_less, cmp_equal, cmp_greater}
use Rattle.site_state.specs.declared.arrival.Arrival.{Arrival}
use Rattle.site_state.specs.State.{arrival_beside}
use Rattle.sender_inbox.specs.Incoming.{by_position, IsFirstAbove}

-- the one behind the number itself
pub first_above-there : (number : ℕ) (xs : List Arrival) (i : ℕ) → IsRising by_position xs → IsThere (arrival_beside number) xs i → IsFirstAbove number xs (i + 1)
first_above-there number xs i rising there = record {
  within = omega (arith, there.in_range);
  before = λ k d low lt. elim (cases_lt k i) [
    | inl less ↦ omega (arith, cmp_less (get_or xs k d).position number (there.before k d low less))
    | inr ge ↦ let same : k ≡ i = omega arith in rw same (omega (arith, cmp_equal (get_or xs i d).position number (there.here d)))
  ];
  behind = λ k d low lt.
      let below = rising_below (λ (a : Arrival). a.position) nat_cmp nat_cmp_total xs d rising i k (omega arith) lt in
      omega (arith, cmp_equal (get_or xs i d).position number (there.here d), cmp_less (get_or xs i d).position (get_or xs k d).position below);
}

-- the one where the number would stand
pub first_above-gap : (number : ℕ) (xs : List Arrival) (i : ℕ) → IsGap (arrival_beside number) xs i → IsFirstAbove number xs i
first_above-gap number xs i gap = record {
  within = gap.in_range;
  before = λ k d low lt. omega (arith, cmp_less (get_or xs k d).position number (gap.before k d low lt));
  behind = λ k d low lt. cmp_greater (get_or xs k d).position number (gap.behind k d low lt);
}
