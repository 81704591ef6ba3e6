use Rattle.dependency_index.proofs.DependencyLaws.{numbers_are_earlier, sharers_are_counted, numbered_ones_share}
use Rattle.dependency_index.proofs.laws.dependency_laws.Goals as goal

pub returns-clause-earlier : goal.returns-clause-earlier
returns-clause-earlier c = numbers_are_earlier

pub returns-clause-greatest : goal.returns-clause-greatest
returns-clause-greatest c = sharers_are_counted

pub returns-clause-shares : goal.returns-clause-shares
returns-clause-shares c = numbered_ones_share
