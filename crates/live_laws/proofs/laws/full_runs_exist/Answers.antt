-- The laws of full runs from every site.
use Rattle.live_laws.proofs.Completion.{full_runs_exist, partial_runs_go_on}
use Rattle.live_laws.proofs.laws.full_runs_exist.Goals as goal

pub returns-clause-exist : goal.returns-clause-exist
returns-clause-exist c = full_runs_exist

pub returns-clause-go_on : goal.returns-clause-go_on
returns-clause-go_on c = partial_runs_go_on
