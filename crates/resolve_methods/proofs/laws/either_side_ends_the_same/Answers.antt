use Rattle.resolve_methods.proofs.Orders.{both_end_the_same}
use Rattle.resolve_methods.proofs.laws.either_side_ends_the_same.Goals as goal

pub returns : goal.returns
returns c = both_end_the_same
