-- The laws of worlds of scripts with a live part.
use Rattle.world_run.proofs.LiveLaws.{live_worlds_hold, live_lines_hold}
use Rattle.world_run.proofs.part_laws.live_worlds_hold.Goals as goal

pub returns-clause-worlds : goal.returns-clause-worlds
returns-clause-worlds c = live_worlds_hold c.convergence_holds.ensures.kept

pub returns-clause-lines : goal.returns-clause-lines
returns-clause-lines c = live_lines_hold c.convergence_holds.ensures.kept
