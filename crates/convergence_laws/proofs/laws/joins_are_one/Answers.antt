-- The law of one join.
use Rattle.convergence_laws.proofs.AnyOrder.{joins_are_one}
use Rattle.convergence_laws.proofs.laws.joins_are_one.Goals as goal

pub returns : goal.returns
returns c = joins_are_one
