use Rattle.std.proofs.Common.{sym, ◌∙◌}
use Rattle.rep_lists.proofs.Rising.{take_there, take_gap}
use Rattle.subquery_snapshots.proofs.rows.take_out.Goals as goal

pub returns-in-Ok : goal.returns-in-Ok
returns-in-Ok c =
    let there = rw c.deref.ensures.value at c.in-Ok.ensures.found in
    c.remove.ensures.items ∙ sym (take_there _ _ _ there)

pub returns-in-Err : goal.returns-in-Err
returns-in-Err c =
    let gap = rw c.deref.ensures.value at c.in-Err.ensures.absent in
    sym (take_gap _ _ _ gap)
