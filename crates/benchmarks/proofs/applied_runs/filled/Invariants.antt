-- Rows inserted one by one.
use Rattle.std.proofs.Common.{◌≡◌}
use Rattle.unique_resolve.specs.Numbers.{AreCounters}
use Rattle.benchmarks.proofs.applied_runs.filled.Given as goal

-- the schema stays, and there is a counter for each of its constraints
abbrev pub invariant-loop-row : goal.invariant-loop-row
invariant-loop-row l = record {
  same : l.store.schema ≡ l.fn.store.schema;
  counted : AreCounters l.fn.store.schema l.counters;
}
