-- A push for whose line there is room.
use Rattle.std.proofs.Common.{◌≡◌, true, sym, ap, ◌∙◌, subst}
use Rattle.world_state.specs.World.{WorldState, is_there}
use Rattle.world_state.specs.Pushes.{world_until_quiet, world_return_mark}
use Rattle.world.proofs.Following.{in_part_then, in_part_linked}
use Rattle.world_push.proofs.Delivering.{pushed_there}
use Rattle.world_push.proofs.Masters.{can_apply_there}
use Rattle.world_push.proofs.Whole.{told-pushed, told_count}
use Rattle.world_push.proofs.pushing.push_in_room.Goals as goal

pub apply_and_tell-requires-clause-there : goal.apply_and_tell-requires-clause-there
apply_and_tell-requires-clause-there g c =
    let to = c.args.to.now in
    subst (λ (w : WorldState). is_there w to ≡ true) (sym c.in_ok-sent.ensures.ok) (pushed_there c.args.from.now to to c.args.count c.args.parts.now c.requires.there)

pub apply_and_tell-requires-clause-masters : goal.apply_and_tell-requires-clause-masters
apply_and_tell-requires-clause-masters g c = can_apply_there _ _ _ _ c.requires.behind c.requires.built c.send_and_deliver.ensures.part c.args.to.now

pub returns-in_err-told-clause-part : goal.returns-in_err-told-clause-part
returns-in_err-told-clause-part g c = in_part_then _ _ _ _ _ c.send_and_deliver.ensures.part c.apply_and_tell.ensures.part

pub return_mark-requires : goal.return_mark-requires
return_mark-requires g c = in_part_linked _ _ _ _ _ _ c.apply_and_tell.ensures.part (in_part_linked _ _ _ _ _ _ c.send_and_deliver.ensures.part c.requires.back)

pub returns-in_err-return_mark-clause-part : goal.returns-in_err-return_mark-clause-part
returns-in_err-return_mark-clause-part g c = in_part_then _ _ _ _ _ c.send_and_deliver.ensures.part (in_part_then _ _ _ _ _ c.apply_and_tell.ensures.part c.return_mark.ensures.part)

pub returns-clause-ok : goal.returns-clause-ok
returns-clause-ok g c =
    let from = c.args.from.now in
    let to = c.args.to.now in
    c.in_ok-return_mark.ensures.ok ∙ ap (world_return_mark to from) (c.in_ok-told.ensures.ok ∙ ap (world_until_quiet from to) c.in_ok-sent.ensures.ok)

pub returns-clause-text : goal.returns-clause-text
returns-clause-text g c =
    told-pushed c.args.from.now c.args.to.now c.args.count c.args.parts.now c.in_ok-sent.sent _ _ _ c.in_ok-sent.ensures.ok c.in_ok-sent.ensures.sent c.in_ok-told.ensures.text

pub returns-clause-told : goal.returns-clause-told
returns-clause-told g c = told_count c.args.from.now c.args.to.now c.args.count c.args.parts.now c.in_ok-sent.sent _ _ c.in_ok-sent.ensures.ok c.in_ok-sent.ensures.sent c.in_ok-told.ensures.count

pub returns-clause-part : goal.returns-clause-part
returns-clause-part g c = in_part_then _ _ _ _ _ c.send_and_deliver.ensures.part (in_part_then _ _ _ _ _ c.apply_and_tell.ensures.part c.return_mark.ensures.part)
