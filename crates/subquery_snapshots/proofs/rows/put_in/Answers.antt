use Rattle.std.proofs.Common.{sym, ◌∙◌}
use Rattle.rep_lists.proofs.Rising.{put_there, put_gap}
use Rattle.subquery_snapshots.proofs.rows.put_in.Goals as goal

pub returns-in-Ok : goal.returns-in-Ok
returns-in-Ok c =
    let there = rw (c.deref.ensures.value, c.values.ensures.value) at c.in-Ok.ensures.found in
    sym (put_there _ _ _ _ there)

pub returns-in-Err : goal.returns-in-Err
returns-in-Err c =
    let gap = rw (c.deref.ensures.value, c.values.ensures.value) at c.in-Err.ensures.absent in
    c.insert_in_room.ensures.items ∙ sym (put_gap _ _ _ _ gap)
