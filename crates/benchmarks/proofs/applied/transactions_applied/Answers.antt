use Rattle.unique_resolve.proofs.Settlements.{AreCounters-first}
use Rattle.benchmarks.proofs.applied.transactions_applied.Goals as goal

-- each counter is at its first number
pub filled-requires-clause-counters : goal.filled-requires-clause-counters
filled-requires-clause-counters c = rw (c.in_ok-store.ensures.schema, c.in_ok-counters.ensures) (AreCounters-first c.in-Some.schema)
