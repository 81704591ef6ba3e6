-- A search in halves.
use Rattle.std.proofs.Common.{◌≡◌, ◌-◌, ◌≤◌, length}
use Rattle.std.specs.List.{AllWithin}
use Rattle.std.specs.declared.cmp.Ordering.TheVariants.{Less, Greater}
use Rattle.page_tables.proofs.page_search.search.Given as goal

-- the slots before the part that is left stand before the place, and those behind it stand behind the place
abbrev pub invariant-loop-low : goal.invariant-loop-low
invariant-loop-low g l = record {
  part : l.low ≤ l.high;
  within : l.high ≤ length l.slots;
  before : AllWithin (λ slot. g.S.Sought.at l.sought slot ≡ Less) l.slots 0 l.low;
  behind : AllWithin (λ slot. g.S.Sought.at l.sought slot ≡ Greater) l.slots l.high (length l.slots);
}

abbrev pub decreases-loop-low : goal.decreases-loop-low
decreases-loop-low g l = l.high - l.low
