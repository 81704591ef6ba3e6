-- The law of errors.
use Rattle.proc_state.proofs.CallLaws.{errors_stand_whole}
use Rattle.proc_state.proofs.laws.errors_stand_whole.Goals as goal

pub returns : goal.returns
returns c = errors_stand_whole
