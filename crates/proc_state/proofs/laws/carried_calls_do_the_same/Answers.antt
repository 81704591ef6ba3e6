-- The law of carried calls.
use Rattle.proc_state.proofs.Carrying.{carried_calls_do_the_same}
use Rattle.proc_state.proofs.laws.carried_calls_do_the_same.Goals as goal

pub returns : goal.returns
returns c = carried_calls_do_the_same
