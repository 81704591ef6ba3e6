-- Rows inserted one by one.
use Rattle.std.proofs.Common.{◌≡◌}
use Rattle.benchmarks.proofs.local_runs.filled.Given as goal

-- the schema stays
abbrev pub invariant-loop-row : goal.invariant-loop-row
invariant-loop-row l = l.store.schema ≡ l.fn.store.schema
