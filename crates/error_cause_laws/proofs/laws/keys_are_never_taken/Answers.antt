-- The law of taken keys.
use Rattle.convergence_laws.proofs.OwnBlocks.{blocks_keep_forms}
use Rattle.error_cause_laws.proofs.Inserting.{keys_are_never_taken}
use Rattle.error_cause_laws.proofs.laws.keys_are_never_taken.Goals as goal

pub returns : goal.returns
returns c = keys_are_never_taken
    (record { adds = c.move_is_added.ensures; greatest = c.greatest_stays.ensures; least = c.least_stays.ensures; latest = c.greater_rank_stays.ensures })
    c.stamps_of_a_block_rise.ensures
    (blocks_keep_forms c.stamps_of_a_block_rise.ensures)
