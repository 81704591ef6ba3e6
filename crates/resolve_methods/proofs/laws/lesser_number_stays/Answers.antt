use Rattle.resolve_methods.proofs.Orders.{lesser_stays_always}
use Rattle.resolve_methods.proofs.laws.lesser_number_stays.Goals as goal

pub returns : goal.returns
returns c = lesser_stays_always
