-- The last of what arrived, and what would stand behind it.
use Rattle.std.proofs.Common.{◌≡◌, ℕ, ◌+◌, ◌-◌, ◌<◌, List, length, get_or, Some, sym, inl, inr, arith}
use Rattle.std.specs.Prelude.{slice_get}
use Rattle.std.specs.Ordering.{nat_cmp}
use Rattle.std.specs.Cmp.{nat_cmp_is}
use Rattle.std.specs.declared.cmp.Ordering.TheVariants.{Less, Equal}
use Rattle.std.proofs.lemmas.Bool.{cases_lt}
use Rattle.std.proofs.lemmas.Cmp.{nat_cmp_total}
use Rattle.std.proofs.lemmas.Option.{slice_get_within, get_or_from_slice_get}
use Rattle.rep_lists.specs.Rising.{IsRising, IsThere, IsGap}
use Rattle.rep_lists.proofs.Rising.{rising_below}
use Rattle.origin_marks.proofs.Counts.{cmp_less}
use Rattle.site_state.specs.declared.arrival.Arrival.{Arrival}
use Rattle.site_state.specs.State.{arrival_beside}
use Rattle.sender_inbox.specs.Incoming.{by_position}

module _ (xs : List Arrival) (rising : IsRising by_position xs) (l : Arrival) (last : slice_get xs (length xs - 1) ≡ Some l) (p : ℕ) where
  within : length xs - 1 < length xs
  within = slice_get_within xs (length xs - 1) l last

  is_last : (d : Arrival) → get_or xs (length xs - 1) d ≡ l
  is_last d = get_or_from_slice_get xs (length xs - 1) l d last

  below : (k : ℕ) (d : Arrival) → k < length xs - 1 → (get_or xs k d).position < l.position
  below k d less =
      let one = rising_below (λ (a : Arrival). a.position) nat_cmp nat_cmp_total xs d rising k (length xs - 1) less within in
      cmp_less (get_or xs k d).position l.position (rw (is_last d) at one)

  -- what is behind the last one would stand at the end
  pub gap_behind : l.position < p → IsGap (arrival_beside p) xs (length xs)
  gap_behind less = record {
    in_range = omega arith;
    before = λ k d low lt. sym (nat_cmp_is (get_or xs k d).position p Less (above k d lt));
    behind = λ k d low lt. absurd (omega (arith, low, lt));
  }
    where
      above : (k : ℕ) (d : Arrival) → k < length xs → (get_or xs k d).position < p
      above k d lt = elim (cases_lt k (length xs - 1)) [
        | inl before ↦ let one = below k d before in omega (arith, one, less)
        | inr end ↦ let same : k ≡ length xs - 1 = omega (arith, lt, end) in rw (same, is_last d) less
      ]

  -- the last one stands at its place
  pub there_at_last : p ≡ l.position → IsThere (arrival_beside p) xs (length xs - 1)
  there_at_last same = record {
    in_range = within;
    here = λ d. sym (nat_cmp_is (get_or xs (length xs - 1) d).position p Equal (rw (is_last d, same)));
    before = λ k d low lt. sym (nat_cmp_is (get_or xs k d).position p Less (let one = below k d lt in omega (arith, one, same)));
  }
