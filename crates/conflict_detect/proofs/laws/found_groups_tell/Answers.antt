use Rattle.conflict_detect.proofs.FoundGroups.{found_each_fit}
use Rattle.conflict_detect.proofs.laws.found_groups_tell.Goals as goal

pub returns : goal.returns
returns c = found_each_fit
