use Rattle.resolve_methods.proofs.Sequences.{least_stays}
use Rattle.resolve_methods.proofs.sequence_laws.least_stays.Goals as goal

pub returns : goal.returns
returns c = least_stays
