use Rattle.resolve_methods.proofs.Sequences.{moves_are_taken}
use Rattle.resolve_methods.proofs.sequence_laws.moves_are_taken.Goals as goal

pub returns : goal.returns
returns c = moves_are_taken
