-- A search in halves among the pages.
use Rattle.std.proofs.Common.{◌≡◌, ◌-◌, ◌<◌, ◌≤◌, length, take, drop}
use Rattle.std.specs.List.{AllByRecursion}
use Rattle.std.specs.declared.cmp.Ordering.TheVariants.{Less, Greater}
use Rattle.page_tables.specs.Pages.{page_values}
use Rattle.page_tables.proofs.page_search.page_for.Given as goal

-- the slots of the pages before the part that is left stand before the place, and those of the pages behind it stand behind the place
abbrev pub invariant-loop-high : goal.invariant-loop-high
invariant-loop-high g l = record {
  some : l.low < l.high;
  within : l.high ≤ length l.pages;
  before : AllByRecursion (λ slot. g.S.Sought.at l.sought slot ≡ Less) (page_values (take l.low l.pages));
  behind : AllByRecursion (λ slot. g.S.Sought.at l.sought slot ≡ Greater) (page_values (drop l.high l.pages));
}

abbrev pub decreases-loop-high : goal.decreases-loop-high
decreases-loop-high g l = l.high - l.low
