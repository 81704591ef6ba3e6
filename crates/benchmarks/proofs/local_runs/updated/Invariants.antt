-- Updates run one by one.
use Rattle.std.proofs.Common.{◌≡◌}
use Rattle.benchmarks.proofs.local_runs.updated.Given as goal

-- the schema stays
abbrev pub invariant-loop-number : goal.invariant-loop-number
invariant-loop-number l = l.store.schema ≡ l.fn.store.schema
