use Rattle.origin_marks.proofs.Counts.{count_there, count_gap}
use Rattle.origin_marks.proofs.edges.edges_below.Goals as goal

pub returns-in-Ok : goal.returns-in-Ok
returns-in-Ok c = count_there _ _ _ c.requires c.in-Ok.ensures.found

pub returns-in-Err : goal.returns-in-Err
returns-in-Err c = count_gap _ _ _ c.in-Err.ensures.absent
