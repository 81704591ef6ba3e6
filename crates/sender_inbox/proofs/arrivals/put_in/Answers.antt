use Rattle.std.proofs.Common.{sym, ◌∙◌}
use Rattle.rep_lists.proofs.Rising.{find_there, put_gap}
use Rattle.sender_inbox.proofs.arrivals.put_in.Goals as goal

-- it hadn't arrived
pub unreachable-requires : goal.unreachable-requires
unreachable-requires c =
    let there = rw c.deref.ensures.value at c.in-Ok.ensures.found in
    let found = find_there _ _ _ c.args.arrival there in
    let absent = c.requires.absent in
    cc (found, absent)

pub returns-clause-ok : goal.returns-clause-ok
returns-clause-ok c =
    let gap = rw c.deref.ensures.value at c.in-Err.ensures.absent in
    c.in_ok-insert-in-Err.ensures.items ∙ sym (put_gap _ _ _ _ gap)
