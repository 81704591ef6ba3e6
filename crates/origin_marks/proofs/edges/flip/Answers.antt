use Rattle.std.proofs.Common.{◌∙◌}
use Rattle.origin_marks.proofs.Flips.{flipped_there, flipped_gap}
use Rattle.origin_marks.proofs.edges.flip.Goals as goal

pub returns-in-Ok-clause-edges : goal.returns-in-Ok-clause-edges
returns-in-Ok-clause-edges c = let there = rw c.as_slice.ensures at c.in-Ok.ensures.found in c.remove.ensures.items ∙ flipped_there _ _ _ there

pub returns-in-Err-clause-edges : goal.returns-in-Err-clause-edges
returns-in-Err-clause-edges c = let gap = rw c.as_slice.ensures at c.in-Err.ensures.absent in c.insert.ensures.items ∙ flipped_gap _ _ _ gap
