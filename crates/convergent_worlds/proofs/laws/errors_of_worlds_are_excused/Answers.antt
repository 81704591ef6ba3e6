-- The law of errors.
use Rattle.convergent_worlds.specs.Convergence.{EachErrorIsExcused}
use Rattle.convergent_worlds.proofs.ConvergenceHolds.{excused_of}
use Rattle.convergent_worlds.proofs.Scripts.{in_scripts, in_worlds}
use Rattle.convergent_worlds.proofs.laws.errors_of_worlds_are_excused.Goals as goal

pub returns-clause-scripts : goal.returns-clause-scripts
returns-clause-scripts c = in_scripts EachErrorIsExcused (excused_of c.errors_are_excused.ensures)

pub returns-clause-worlds : goal.returns-clause-worlds
returns-clause-worlds c = in_worlds EachErrorIsExcused (excused_of c.errors_are_excused.ensures)
