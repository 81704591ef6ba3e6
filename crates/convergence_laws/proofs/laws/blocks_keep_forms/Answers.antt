-- The law of blocks.
use Rattle.convergence_laws.proofs.OwnBlocks.{blocks_keep_forms}
use Rattle.convergence_laws.proofs.laws.blocks_keep_forms.Goals as goal

pub returns : goal.returns
returns c = blocks_keep_forms c.stamps_of_a_block_rise.ensures
