-- The laws of calls.
use Rattle.proc_state.proofs.CallLaws.{failed_calls_change_nothing, calls_lead_to_their_tables}
use Rattle.proc_state.proofs.laws.calls_lead_to_their_tables.Goals as goal

pub returns-clause-failed : goal.returns-clause-failed
returns-clause-failed c = failed_calls_change_nothing

pub returns-clause-others : goal.returns-clause-others
returns-clause-others c = calls_lead_to_their_tables
