-- Updates applied one by one.
use Rattle.std.proofs.Common.{◌≡◌}
use Rattle.unique_resolve.specs.Numbers.{AreCounters}
use Rattle.benchmarks.proofs.applied_runs.updated.Given as goal

-- the schema stays, and there is a counter for each of its constraints
abbrev pub invariant-loop-number : goal.invariant-loop-number
invariant-loop-number l = record {
  same : l.store.schema ≡ l.fn.store.schema;
  counted : AreCounters l.fn.store.schema l.counters;
}
