use Rattle.std.proofs.Common.{sym, ap, ◌∙◌, Some}
use Rattle.rep_lists.proofs.Rising.{find_there, find_gap}
use Rattle.refreshes.proofs.plan.find_like.Goals as goal

pub returns-in-Ok : goal.returns-in-Ok
returns-in-Ok c = ap Some c.index-rows-place.is ∙ sym (find_there _ _ _ _ c.in-Ok.ensures.found)

pub returns-in-Err : goal.returns-in-Err
returns-in-Err c = sym (find_gap _ _ _ c.in-Err.ensures.absent)
