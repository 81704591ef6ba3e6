-- Copying the counters table by table.
use Rattle.std.proofs.Common.{◌≡◌, map, take}
use Rattle.unique_resolve.proofs.counters.CountersCopies.copy.Given as goal

-- the counters of the tables so far are copied
abbrev pub invariant-loop-numbers : goal.invariant-loop-numbers
invariant-loop-numbers l = map (λ t. t.items) l.tables.items ≡ map (λ t. t.items) (take l.numbers-index l.numbers-items)
