use Rattle.resolve_methods.proofs.Sequences.{moves_add_in_any_order}
use Rattle.resolve_methods.proofs.sequence_laws.moves_add_in_any_order.Goals as goal

pub returns : goal.returns
returns c = moves_add_in_any_order
