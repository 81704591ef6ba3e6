use Rattle.std.proofs.Common.{rules}
use Rattle.crew_cases.proofs.pair.Pair.into_receiver.Goals as goal

pub returns-then-is_master_site-clause-passes : goal.returns-then-is_master_site-clause-passes
returns-then-is_master_site-clause-passes c = rw c.name.ensures (c.two_sites_run.ensures.pass _ _ c.self.invariant (search rules))
