-- What the run beside the workers tells is so of source and sink as they are given back.
use Rattle.std.proofs.Common.{rules}
use Rattle.world_run.proofs.ToldRuns.{told_of, complete_of}
use Rattle.world_run.proofs.run.run_crew_through.Goals as goal

pub returns-clause-told : goal.returns-clause-told
returns-clause-told g c = told_of c.beside_workers.ensures.met.1 _ _ (search rules) (search rules)

pub returns-clause-complete : goal.returns-clause-complete
returns-clause-complete g c = complete_of c.beside_workers.ensures.met.1 _ _ (search rules) (search rules)
