-- The law of joins.
use Rattle.convergence_laws.proofs.EventsKeepForms.{groups_are_joined}
use Rattle.convergence_laws.proofs.OwnBlocks.{blocks_keep_forms}
use Rattle.convergence_laws.proofs.laws.groups_are_joined.Goals as goal

pub returns : goal.returns
returns c = groups_are_joined (record { adds = c.move_is_added.ensures; greatest = c.greatest_stays.ensures; least = c.least_stays.ensures; latest = c.greater_rank_stays.ensures })
    (blocks_keep_forms c.stamps_of_a_block_rise.ensures)
