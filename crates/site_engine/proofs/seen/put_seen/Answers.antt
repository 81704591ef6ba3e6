use Rattle.std.proofs.Common.{sym, ◌∙◌}
use Rattle.rep_lists.proofs.Rising.{put_there, put_gap}
use Rattle.site_engine.proofs.seen.put_seen.Goals as goal

pub returns-in-Ok : goal.returns-in-Ok
returns-in-Ok c = let there = rw c.deref.ensures.value at c.in-Ok.ensures.found in record { ok = sym (put_there _ _ _ _ there) }

pub returns-in_ok-insert-in-Err : goal.returns-in_ok-insert-in-Err
returns-in_ok-insert-in-Err c = let gap = rw c.deref.ensures.value at c.in-Err.ensures.absent in record { ok = c.in_ok-insert-in-Err.ensures.items ∙ sym (put_gap _ _ _ _ gap) }
