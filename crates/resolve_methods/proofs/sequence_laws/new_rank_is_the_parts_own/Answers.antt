use Rattle.resolve_methods.proofs.NewRanks.{new_rank_is_the_parts_own}
use Rattle.resolve_methods.proofs.sequence_laws.new_rank_is_the_parts_own.Goals as goal

pub returns : goal.returns
returns c = new_rank_is_the_parts_own
