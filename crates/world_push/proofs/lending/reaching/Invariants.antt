-- Gathering those that reach a master.
use Rattle.std.proofs.Common.{◌≡◌, ◌++◌, drop, filter}
use Rattle.world_push.specs.Lending.{reaches}
use Rattle.world_push.proofs.lending.reaching.Given as goal

-- those so far, and those among the senders to come
abbrev pub invariant-loop-from : goal.invariant-loop-from
invariant-loop-from l = filter (reaches l.name l.parts) l.from-items ≡ l.names ++ filter (reaches l.name l.parts) (drop l.from-index l.from-items)
