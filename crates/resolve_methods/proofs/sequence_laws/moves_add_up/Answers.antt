use Rattle.resolve_methods.proofs.Sequences.{moves_add_up}
use Rattle.resolve_methods.proofs.sequence_laws.moves_add_up.Goals as goal

pub returns : goal.returns
returns c = moves_add_up
