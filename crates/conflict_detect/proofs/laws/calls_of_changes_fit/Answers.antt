use Rattle.conflict_detect.proofs.CallFit.{CallFits-call_of}
use Rattle.conflict_detect.proofs.laws.calls_of_changes_fit.Goals as goal

pub returns : goal.returns
returns c = CallFits-call_of
