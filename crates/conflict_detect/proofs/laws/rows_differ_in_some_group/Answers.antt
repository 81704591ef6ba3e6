use Rattle.conflict_detect.proofs.RowAfter.{same_from_groups}
use Rattle.conflict_detect.proofs.laws.rows_differ_in_some_group.Goals as goal

pub returns : goal.returns
returns c = λ schema table a b shape one. same_from_groups schema shape table a b one
