-- The law of latest values.
use Rattle.convergence_laws.proofs.OwnBlocks.{blocks_keep_forms}
use Rattle.convergence_laws.proofs.LatestApart.{latest_values_tell_apart}
use Rattle.convergence_laws.proofs.laws_of_agreement.latest_values_tell_apart.Goals as goal

pub returns : goal.returns
returns c = latest_values_tell_apart (record {
  decides = record { adds = c.move_is_added.ensures; greatest = c.greatest_stays.ensures; least = c.least_stays.ensures; latest = c.greater_rank_stays.ensures };
  blocks = blocks_keep_forms c.stamps_of_a_block_rise.ensures;
  rising = c.stamps_of_a_block_rise.ensures;
})
