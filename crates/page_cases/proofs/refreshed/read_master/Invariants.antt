-- Putting the master's rows, one after another.
use Rattle.std.proofs.Common.{◌≡◌}
use Rattle.page_cases.proofs.refreshed.read_master.Given as goal

-- the schema stays
abbrev pub invariant-loop : goal.invariant-loop
invariant-loop g l = l.master.schema ≡ l.initial.master.schema
