use Rattle.std.proofs.Common.{sym, ap, ◌∙◌, Some}
use Rattle.rep_lists.proofs.Rising.{find_there, find_gap}
use Rattle.rep_schema.proofs.Levels.{find_rising}
use Rattle.resolve_methods.proofs.ranks.level_for.Goals as goal

pub returns-in-Ok : goal.returns-in-Ok
returns-in-Ok c = ap Some c.index-levels-place.is ∙ sym (find_there _ _ _ _ c.in-Ok.ensures.found) ∙ sym (find_rising c.args.value.now c.args.levels.now c.requires)

pub returns-in-Err : goal.returns-in-Err
returns-in-Err c = sym (find_gap _ _ _ c.in-Err.ensures.absent) ∙ sym (find_rising c.args.value.now c.args.levels.now c.requires)
