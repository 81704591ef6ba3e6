use Rattle.resolve_methods.proofs.Orders.{greater_stays_always}
use Rattle.resolve_methods.proofs.laws.greater_number_stays.Goals as goal

pub returns : goal.returns
returns c = greater_stays_always
