use Rattle.std.proofs.Common.{sym, subst, ◌<◌}
use Rattle.rep_lists.proofs.Rising.{find_gap, take_gap}
use Rattle.error_queue.proofs.InPlaces.{taken_found, taken_left}
use Rattle.error_queue.proofs.origin_errors.take_out.Goals as goal

pub returns-in-Ok-clause-taken : goal.returns-in-Ok-clause-taken
returns-in-Ok-clause-taken c =
    let there = c.in-Ok.ensures.found in
    let some = c.remove.ensures.variant.1 (subst (λ n. c.in-Ok.place < n) (sym c.args.entries.now.ok.0) there.in_range) in
    taken_found _ _ _ there _ some c.remove.ensures.value

pub returns-in-Ok-clause-entries : goal.returns-in-Ok-clause-entries
returns-in-Ok-clause-entries c =
    let there = c.in-Ok.ensures.found in
    let some = c.remove.ensures.variant.1 (subst (λ n. c.in-Ok.place < n) (sym c.args.entries.now.ok.0) there.in_range) in
    taken_left _ _ _ there _ _ some c.remove.ensures.items

pub returns-in-Err-clause-taken : goal.returns-in-Err-clause-taken
returns-in-Err-clause-taken c = sym (find_gap _ _ _ c.in-Err.ensures.absent)

pub returns-in-Err-clause-entries : goal.returns-in-Err-clause-entries
returns-in-Err-clause-entries c = sym (take_gap _ _ _ c.in-Err.ensures.absent)
