use Rattle.net_plan.proofs.Stays.{given_pairs_stay, other_directions_stay}
use Rattle.net_plan.proofs.laws.directions_stay.Goals as goal

pub returns-clause-given : goal.returns-clause-given
returns-clause-given c = given_pairs_stay

pub returns-clause-others : goal.returns-clause-others
returns-clause-others c = other_directions_stay
