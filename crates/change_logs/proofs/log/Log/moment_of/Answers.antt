use Rattle.std.proofs.Common.{Some, ap}
use Rattle.rep_lists.proofs.Rising.{find_there, find_gap}
use Rattle.change_logs.proofs.log.Log.moment_of.Goals as goal

pub returns-in-Ok : goal.returns-in-Ok
returns-in-Ok c = rw (← c.self.view_is, find_there _ _ _ c.at.result.now c.in-Ok.ensures.found, ← c.at.ensures) (ap Some c.moment.ensures)

pub returns-in-Err : goal.returns-in-Err
returns-in-Err c = rw (← c.self.view_is, find_gap _ _ _ c.in-Err.ensures.absent)
