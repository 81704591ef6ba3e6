-- The law of errors.
use Rattle.convergence_laws.proofs.OwnBlocks.{blocks_keep_forms}
use Rattle.error_cause_laws.proofs.Excusing.{errors_are_excused}
use Rattle.error_cause_laws.proofs.laws.errors_are_excused.Goals as goal

pub returns : goal.returns
returns c = errors_are_excused
    (record { adds = c.move_is_added.ensures; greatest = c.greatest_stays.ensures; least = c.least_stays.ensures; latest = c.greater_rank_stays.ensures })
    c.stamps_of_a_block_rise.ensures
    (blocks_keep_forms c.stamps_of_a_block_rise.ensures)
