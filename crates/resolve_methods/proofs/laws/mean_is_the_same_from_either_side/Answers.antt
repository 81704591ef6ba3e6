use Rattle.resolve_methods.proofs.Orders.{means_are_the_same}
use Rattle.resolve_methods.proofs.laws.mean_is_the_same_from_either_side.Goals as goal

pub returns : goal.returns
returns c = means_are_the_same
