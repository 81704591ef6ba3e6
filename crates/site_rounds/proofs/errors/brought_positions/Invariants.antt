-- The positions that the entries so far brought.
use Rattle.std.proofs.Common.{◌≡◌, ℕ, take}
use Rattle.std.specs.List.{list_any}
use Rattle.std.specs.Ordering.{nat_cmp}
use Rattle.std.specs.BTreeSet.{contains}
use Rattle.site_rounds.specs.NewErrors.{brings}
use Rattle.site_rounds.proofs.errors.brought_positions.Given as goal

abbrev pub invariant-loop-behind : goal.invariant-loop-behind
invariant-loop-behind g l = (p : ℕ) → contains nat_cmp l.positions p ≡ list_any (brings l.origin p) (take l.behind (g.J.Journalled.told_of l.site).journal)
