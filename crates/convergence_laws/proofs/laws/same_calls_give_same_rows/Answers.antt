-- The law of same calls.
use Rattle.convergence_laws.proofs.SameRows.{same_calls_give_same_rows}
use Rattle.convergence_laws.proofs.laws.same_calls_give_same_rows.Goals as goal

pub returns : goal.returns
returns c = same_calls_give_same_rows (record { adds = c.move_is_added.ensures; greatest = c.greatest_stays.ensures; least = c.least_stays.ensures; latest = c.greater_rank_stays.ensures })
