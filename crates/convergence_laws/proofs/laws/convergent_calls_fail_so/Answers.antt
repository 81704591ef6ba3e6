-- The law of failing calls.
use Rattle.convergence_laws.proofs.Faults.{convergent_calls_fail_so}
use Rattle.convergence_laws.proofs.laws.convergent_calls_fail_so.Goals as goal

pub returns : goal.returns
returns c = convergent_calls_fail_so (record { adds = c.move_is_added.ensures; greatest = c.greatest_stays.ensures; least = c.least_stays.ensures; latest = c.greater_rank_stays.ensures })
