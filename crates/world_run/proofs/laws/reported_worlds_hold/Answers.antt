-- The law of reports.
use Rattle.world_run.proofs.Worlds.{reported_worlds_hold, reported_snapshots_hold, reported_worlds_converge, reported_procedures_hold, pushes_leave_nothing_ready, pushes_of_calls_leave_nothing_ready, refreshes_show_the_query, joins_take_over, lines_of_scripts_hold}
use Rattle.world_run.proofs.laws.reported_worlds_hold.Goals as goal

pub returns-clause-worlds : goal.returns-clause-worlds
returns-clause-worlds c = reported_worlds_hold

pub returns-clause-pushed : goal.returns-clause-pushed
returns-clause-pushed c = pushes_leave_nothing_ready

pub returns-clause-calls_pushed : goal.returns-clause-calls_pushed
returns-clause-calls_pushed c = pushes_of_calls_leave_nothing_ready

pub returns-clause-procedures : goal.returns-clause-procedures
returns-clause-procedures c = reported_procedures_hold

pub returns-clause-snapshots : goal.returns-clause-snapshots
returns-clause-snapshots c = reported_snapshots_hold

pub returns-clause-convergence : goal.returns-clause-convergence
returns-clause-convergence c = reported_worlds_converge c.convergence_holds.ensures.kept

pub returns-clause-refreshed : goal.returns-clause-refreshed
returns-clause-refreshed c = refreshes_show_the_query

pub returns-clause-joined : goal.returns-clause-joined
returns-clause-joined c = joins_take_over

pub returns-clause-lines : goal.returns-clause-lines
returns-clause-lines c = lines_of_scripts_hold c.convergence_holds.ensures.kept
