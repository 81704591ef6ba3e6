use Rattle.resolve_methods.proofs.Sequences.{move_is_added}
use Rattle.resolve_methods.proofs.sequence_laws.move_is_added.Goals as goal

pub returns : goal.returns
returns c = move_is_added
