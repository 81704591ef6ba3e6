-- The laws of executions and drops.
use Rattle.event_laws.proofs.ErrorLaws.{refused_executions_change_nothing, executions_apply_anew, drops_clear}
use Rattle.event_laws.proofs.laws.executions_apply_anew.Goals as goal

pub returns-clause-refused : goal.returns-clause-refused
returns-clause-refused c = refused_executions_change_nothing

pub returns-clause-executed : goal.returns-clause-executed
returns-clause-executed c = executions_apply_anew

pub returns-clause-dropped : goal.returns-clause-dropped
returns-clause-dropped c = drops_clear
