-- The law of agreement.
use Rattle.convergence_laws.proofs.OwnBlocks.{blocks_keep_forms}
use Rattle.convergence_laws.proofs.Agreeing.{quiet_masters_agree}
use Rattle.convergence_laws.proofs.laws_of_agreement.quiet_masters_agree.Goals as goal

pub returns : goal.returns
returns c = quiet_masters_agree (record {
  decides = record { adds = c.move_is_added.ensures; greatest = c.greatest_stays.ensures; least = c.least_stays.ensures; latest = c.greater_rank_stays.ensures };
  blocks = blocks_keep_forms c.stamps_of_a_block_rise.ensures;
  rising = c.stamps_of_a_block_rise.ensures;
})
