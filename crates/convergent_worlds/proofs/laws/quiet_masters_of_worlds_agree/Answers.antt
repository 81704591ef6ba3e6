-- The law of agreement.
use Rattle.convergent_worlds.specs.Convergence.{MastersAgreeWhenQuiet}
use Rattle.convergent_worlds.proofs.ConvergenceHolds.{agree_of}
use Rattle.convergent_worlds.proofs.Scripts.{in_scripts, in_worlds}
use Rattle.convergent_worlds.proofs.laws.quiet_masters_of_worlds_agree.Goals as goal

pub returns-clause-scripts : goal.returns-clause-scripts
returns-clause-scripts c = in_scripts MastersAgreeWhenQuiet (agree_of c.quiet_masters_agree.ensures)

pub returns-clause-worlds : goal.returns-clause-worlds
returns-clause-worlds c = in_worlds MastersAgreeWhenQuiet (agree_of c.quiet_masters_agree.ensures)
