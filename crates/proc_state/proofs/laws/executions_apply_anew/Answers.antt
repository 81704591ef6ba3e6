-- The laws of executions.
use Rattle.proc_state.proofs.CallLaws.{refused_executions_change_nothing, executions_apply_anew}
use Rattle.proc_state.proofs.laws.executions_apply_anew.Goals as goal

pub returns-clause-refused : goal.returns-clause-refused
returns-clause-refused c = refused_executions_change_nothing

pub returns-clause-executed : goal.returns-clause-executed
returns-clause-executed c = executions_apply_anew
