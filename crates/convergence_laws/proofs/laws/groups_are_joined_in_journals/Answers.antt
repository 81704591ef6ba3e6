-- The law of journals.
use Rattle.convergence_laws.proofs.JournalsJoin.{journals_join}
use Rattle.convergence_laws.proofs.laws.groups_are_joined_in_journals.Goals as goal

pub returns : goal.returns
returns c = journals_join (record { adds = c.move_is_added.ensures; greatest = c.greatest_stays.ensures; least = c.least_stays.ensures; latest = c.greater_rank_stays.ensures })
