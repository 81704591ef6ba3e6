-- The law of joins.
use Rattle.convergent_worlds.specs.Convergence.{EachGroupIsJoined, EachGroupIsJoinedSince}
use Rattle.convergent_worlds.proofs.ConvergenceHolds.{joined_of, since_of}
use Rattle.convergent_worlds.proofs.Scripts.{in_scripts, in_worlds}
use Rattle.convergent_worlds.proofs.laws.groups_of_worlds_are_joined.Goals as goal

pub returns-clause-scripts : goal.returns-clause-scripts
returns-clause-scripts c = in_scripts EachGroupIsJoined (joined_of c.groups_are_joined.ensures)

pub returns-clause-worlds : goal.returns-clause-worlds
returns-clause-worlds c = in_worlds EachGroupIsJoined (joined_of c.groups_are_joined.ensures)

pub returns-clause-scripts_since : goal.returns-clause-scripts_since
returns-clause-scripts_since c = in_scripts EachGroupIsJoinedSince (since_of c.groups_are_joined_since.ensures)

pub returns-clause-worlds_since : goal.returns-clause-worlds_since
returns-clause-worlds_since c = in_worlds EachGroupIsJoinedSince (since_of c.groups_are_joined_since.ensures)
