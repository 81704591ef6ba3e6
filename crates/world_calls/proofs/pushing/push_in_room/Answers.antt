-- A push for whose line there is room.
use Rattle.std.proofs.Common.{◌≡◌, true, sym, ap, ◌∙◌, subst}
use Rattle.std.specs.Prelude.{is_some}
use Rattle.world_state.specs.Procs.{Procs, proc_of}
use Rattle.world_state.specs.CallPushes.{calls_until_quiet, calls_return_mark}
use Rattle.world.proofs.CallsFollowing.{calls_part_then, calls_part_linked}
use Rattle.world_calls.proofs.Delivering.{calls_pushed_there}
use Rattle.world_calls.proofs.Whole.{told_pushed}
use Rattle.world_calls.proofs.pushing.push_in_room.Goals as goal

pub apply_and_tell-requires-clause-there : goal.apply_and_tell-requires-clause-there
apply_and_tell-requires-clause-there c =
    let to = c.args.to.now in
    subst (λ (p : Procs). is_some (proc_of to p.sites) ≡ true) (sym c.in_ok-sent.ensures.ok) (calls_pushed_there c.args.from.now to to c.args.procs.now c.requires.there)

pub returns-in_err-apply_and_tell-clause-part : goal.returns-in_err-apply_and_tell-clause-part
returns-in_err-apply_and_tell-clause-part c = calls_part_then _ _ _ _ _ c.send_and_deliver.ensures.part c.apply_and_tell.ensures.part

pub return_mark-requires : goal.return_mark-requires
return_mark-requires c = calls_part_linked _ _ _ _ _ _ c.apply_and_tell.ensures.part (calls_part_linked _ _ _ _ _ _ c.send_and_deliver.ensures.part c.requires.back)

pub returns-in_err-return_mark-clause-part : goal.returns-in_err-return_mark-clause-part
returns-in_err-return_mark-clause-part c = calls_part_then _ _ _ _ _ c.send_and_deliver.ensures.part (calls_part_then _ _ _ _ _ c.apply_and_tell.ensures.part c.return_mark.ensures.part)

pub returns-clause-ok : goal.returns-clause-ok
returns-clause-ok c =
    let from = c.args.from.now in
    let to = c.args.to.now in
    c.in_ok-return_mark.ensures.ok ∙ ap (calls_return_mark c.args.is_up to from) (c.in_ok-apply_and_tell.ensures.ok ∙ ap (calls_until_quiet from to) c.in_ok-sent.ensures.ok)

pub returns-clause-text : goal.returns-clause-text
returns-clause-text c =
    told_pushed c.args.from.now c.args.to.now c.args.procs.now c.in_ok-sent.sent _ _ _ c.in_ok-sent.ensures.ok c.in_ok-sent.ensures.sent c.in_ok-apply_and_tell.ensures.text

pub returns-clause-part : goal.returns-clause-part
returns-clause-part c = calls_part_then _ _ _ _ _ c.send_and_deliver.ensures.part (calls_part_then _ _ _ _ _ c.apply_and_tell.ensures.part c.return_mark.ensures.part)
