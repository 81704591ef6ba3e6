-- The law of pairs.
use Rattle.convergence_laws.proofs.PairsMadeOnce.{pairs_are_made_once}
use Rattle.convergence_laws.proofs.laws_of_agreement.pairs_are_made_once.Goals as goal

pub returns : goal.returns
returns c = pairs_are_made_once c.stamps_of_a_block_rise.ensures
