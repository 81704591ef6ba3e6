-- The law of errors.
use Rattle.event_laws.proofs.ErrorLaws.{errors_stand_whole}
use Rattle.event_laws.proofs.laws.errors_stand_whole.Goals as goal

pub returns : goal.returns
returns c = errors_stand_whole
