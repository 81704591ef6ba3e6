use Rattle.std.proofs.Common.{◌≤◌, vec_len}
use Rattle.parallel_apply.proofs.workers.Workers.seated.Given as goal

-- no more seats than rounds
abbrev pub invariant-loop : goal.invariant-loop
invariant-loop g l = vec_len l.seats ≤ l.counter
