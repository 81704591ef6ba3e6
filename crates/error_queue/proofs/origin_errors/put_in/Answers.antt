use Rattle.std.proofs.Common.{sym, ◌∙◌, arith}
use Rattle.rep_lists.proofs.Rising.{find_there, put_gap}
use Rattle.error_queue.proofs.InPlaces.{OnOk-sure}
use Rattle.error_queue.proofs.origin_errors.put_in.Goals as goal

-- none stands there
pub unreachable-requires : goal.unreachable-requires
unreachable-requires c =
    let found = find_there _ _ _ c.args.error c.in-Ok.ensures.found in
    let absent = c.requires.absent in
    cc (found, absent)

-- there is room, so that the insertion doesn't fail
pub returns-clause-entries : goal.returns-clause-entries
returns-clause-entries c =
    let put = OnOk-sure _ _ c.insert.result c.insert.ensures.items c.insert.ensures.full (λ full. omega (arith, full, c.requires.room)) in
    put ∙ sym (put_gap _ _ _ _ c.in-Err.ensures.absent)
