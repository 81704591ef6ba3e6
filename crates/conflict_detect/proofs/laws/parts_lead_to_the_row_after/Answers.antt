use Rattle.conflict_detect.proofs.RowAfter.{with_parts-parts_between}
use Rattle.conflict_detect.proofs.laws.parts_lead_to_the_row_after.Goals as goal

pub returns : goal.returns
returns c = λ schema table before after shape one. with_parts-parts_between schema shape table before after one
