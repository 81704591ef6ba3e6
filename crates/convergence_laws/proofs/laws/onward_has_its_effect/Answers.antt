-- The law of what is sent on.
use Rattle.convergence_laws.proofs.OnwardEffects.{onward_has_its_effect}
use Rattle.convergence_laws.proofs.OwnBlocks.{blocks_keep_forms}
use Rattle.convergence_laws.proofs.laws.onward_has_its_effect.Goals as goal

pub returns : goal.returns
returns c = onward_has_its_effect (record { adds = c.move_is_added.ensures; greatest = c.greatest_stays.ensures; least = c.least_stays.ensures; latest = c.greater_rank_stays.ensures })
    (blocks_keep_forms c.stamps_of_a_block_rise.ensures)
