-- The law of joins from one moment to a later one.
use Rattle.convergence_laws.proofs.Between.{groups_are_joined_between}
use Rattle.convergence_laws.proofs.laws_of_agreement.groups_are_joined_between.Goals as goal

pub returns : goal.returns
returns c = groups_are_joined_between c.groups_are_joined_since.ensures
