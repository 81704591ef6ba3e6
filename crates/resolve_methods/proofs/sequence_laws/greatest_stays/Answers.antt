use Rattle.resolve_methods.proofs.Sequences.{greatest_stays}
use Rattle.resolve_methods.proofs.sequence_laws.greatest_stays.Goals as goal

pub returns : goal.returns
returns c = greatest_stays
