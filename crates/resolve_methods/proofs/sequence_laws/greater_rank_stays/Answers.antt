use Rattle.resolve_methods.proofs.Sequences.{greater_rank_stays}
use Rattle.resolve_methods.proofs.sequence_laws.greater_rank_stays.Goals as goal

pub returns : goal.returns
returns c = greater_rank_stays
