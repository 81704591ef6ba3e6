-- The methods that go by an order or by none, as cases.
use Rattle.std.specs.Prelude.{ℕ, ◌==◌, cond}
use Rattle.std.specs.declared.cmp.Ordering.{Ordering}
use Rattle.resolve_methods.specs.declared.decision.Decision.{Decision}
use Rattle.resolve_methods.specs.declared.decision.Decision.TheVariants.{TakeNew, Keep, Undecided}
use Rattle.resolve_methods.specs.declared.order_cases.OrderMethod.{OrderMethod}
use Rattle.resolve_methods.specs.declared.order_cases.OrderMethod.TheVariants.{Latest, Earliest, Maximum, Minimum, Priority, SitePriority, Overwrite, Discard}
use Rattle.resolve_methods.specs.Decide.{greater_stays, lesser_stays}

-- what a method decides, by how the new number or level stands beside the current one
abbrev pub decided_at : OrderMethod → Ordering → Decision
decided_at Latest = greater_stays
decided_at Earliest = lesser_stays
decided_at Maximum = greater_stays
decided_at Minimum = lesser_stays
decided_at Priority = greater_stays
decided_at SitePriority = greater_stays
decided_at Overwrite = λ order. TakeNew
decided_at Discard = λ order. Keep

-- a method's row in the table of cases
abbrev pub row_of : OrderMethod → ℕ
row_of Latest = 0
row_of Earliest = 1
row_of Maximum = 2
row_of Minimum = 3
row_of Priority = 4
row_of SitePriority = 5
row_of Overwrite = 6
row_of Discard = 7

-- what a cell stands for
abbrev pub decision_in : ℕ → Decision
decision_in cell = cond (cell == 0) Keep (cond (cell == 2) TakeNew Undecided)
