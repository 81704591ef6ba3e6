-- The law of missing rows.
use Rattle.convergence_laws.proofs.OwnBlocks.{blocks_keep_forms}
use Rattle.error_cause_laws.proofs.MissingRowLaws.{missing_rows_are_of_lost_inserts}
use Rattle.error_cause_laws.proofs.laws_of_lost_inserts.missing_rows_are_of_lost_inserts.Goals as goal

pub returns : goal.returns
returns c = missing_rows_are_of_lost_inserts
    (record { adds = c.move_is_added.ensures; greatest = c.greatest_stays.ensures; least = c.least_stays.ensures; latest = c.greater_rank_stays.ensures })
    c.stamps_of_a_block_rise.ensures
    (blocks_keep_forms c.stamps_of_a_block_rise.ensures)
