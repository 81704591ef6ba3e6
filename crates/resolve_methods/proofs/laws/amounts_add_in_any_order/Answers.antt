use Rattle.resolve_methods.proofs.Orders.{sums_are_the_same}
use Rattle.resolve_methods.proofs.laws.amounts_add_in_any_order.Goals as goal

pub returns : goal.returns
returns c = sums_are_the_same
