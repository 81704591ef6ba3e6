-- The law of missing rows.
use Rattle.convergence_laws.proofs.OwnBlocks.{blocks_keep_forms}
use Rattle.error_cause_laws.proofs.MissingRows.{missing_rows_were_never_there}
use Rattle.error_cause_laws.proofs.laws.missing_rows_were_never_there.Goals as goal

pub returns : goal.returns
returns c = missing_rows_were_never_there
    (record { adds = c.move_is_added.ensures; greatest = c.greatest_stays.ensures; least = c.least_stays.ensures; latest = c.greater_rank_stays.ensures })
    (blocks_keep_forms c.stamps_of_a_block_rise.ensures)
