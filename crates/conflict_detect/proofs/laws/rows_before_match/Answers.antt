use Rattle.conflict_detect.proofs.OwnCall.{found_of-own_call}
use Rattle.conflict_detect.proofs.laws.rows_before_match.Goals as goal

pub returns : goal.returns
returns c = found_of-own_call
