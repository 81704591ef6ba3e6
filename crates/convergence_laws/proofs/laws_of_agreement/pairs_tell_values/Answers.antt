-- The law of values.
use Rattle.convergence_laws.proofs.OwnBlocks.{blocks_keep_forms}
use Rattle.convergence_laws.proofs.PairsTell.{pairs_tell_values}
use Rattle.convergence_laws.proofs.laws_of_agreement.pairs_tell_values.Goals as goal

pub returns : goal.returns
returns c = pairs_tell_values (record {
  decides = record { adds = c.move_is_added.ensures; greatest = c.greatest_stays.ensures; least = c.least_stays.ensures; latest = c.greater_rank_stays.ensures };
  blocks = blocks_keep_forms c.stamps_of_a_block_rise.ensures;
  rising = c.stamps_of_a_block_rise.ensures;
})
