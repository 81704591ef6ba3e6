use Rattle.std.proofs.Common.{sym}
use Rattle.rep_lists.proofs.Rising.{put_there, put_gap}
use Rattle.change_logs.proofs.log.put_in.Goals as goal

pub returns-in-Ok-clause-items : goal.returns-in-Ok-clause-items
returns-in-Ok-clause-items c = rw (c.set.ensures.items, c.of.ensures) (sym (put_there _ _ _ _ c.in-Ok.ensures.found))

pub returns-in-Err-clause-items : goal.returns-in-Err-clause-items
returns-in-Err-clause-items c = rw (c.insert.ensures.items, c.of-in-Err.ensures) (sym (put_gap _ _ _ _ c.in-Err.ensures.absent))
