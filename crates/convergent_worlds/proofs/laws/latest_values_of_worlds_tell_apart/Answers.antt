-- The law of latest values.
use Rattle.convergent_worlds.specs.Convergence.{EachHasGreatest}
use Rattle.convergent_worlds.proofs.ConvergenceHolds.{greatest_of}
use Rattle.convergent_worlds.proofs.Scripts.{in_scripts, in_worlds}
use Rattle.convergent_worlds.proofs.laws.latest_values_of_worlds_tell_apart.Goals as goal

pub returns-clause-scripts : goal.returns-clause-scripts
returns-clause-scripts c = in_scripts EachHasGreatest (greatest_of c.latest_values_tell_apart.ensures)

pub returns-clause-worlds : goal.returns-clause-worlds
returns-clause-worlds c = in_worlds EachHasGreatest (greatest_of c.latest_values_tell_apart.ensures)
