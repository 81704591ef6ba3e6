-- What is held, and the mark behind it.
use Rattle.std.proofs.Common.{◌≡◌, ap, ◌∙◌}
use Rattle.rep_values.specs.declared.name.SiteName.{SiteName}
use Rattle.world_state.specs.World.{WorldState}
use Rattle.world_state.specs.Pushes.{world_release, world_send_mark, world_deliver}
use Rattle.world.specs.Following.{Release, Back, SendMark, PushesInPart}
use Rattle.world.proofs.Following.{in_part_none, in_part_one, in_part_then, in_part_linked}
use Rattle.world_push.proofs.Travelling.{travels_back}
use Rattle.world_push.proofs.marks.deliver_mark.Goals as goal

-- the mark of a push from one site to another goes back
released_back : (from to : SiteName) (w y : WorldState) → y ≡ world_release to from w → PushesInPart from to w y
released_back from to w y is = in_part_one from to (Back Release) w y is

marked_back : (from to : SiteName) (w y z : WorldState) → y ≡ world_release to from w → z ≡ world_send_mark to from y → PushesInPart from to w z
marked_back from to w y z released marked = in_part_then from to w y z (released_back from to w y released) (in_part_one from to SendMark y z marked)

pub returns-in_err-release-clause-part : goal.returns-in_err-release-clause-part
returns-in_err-release-clause-part c = in_part_none _ _ _ _ c.in_err-release.ensures.err

pub send_mark-requires : goal.send_mark-requires
send_mark-requires c =
    let from = c.args.from.now in
    let to = c.args.to.now in
    let w = c.args.parts.now in
    in_part_linked to from from to w _ (released_back to from w _ c.in_ok-release.ensures.ok) c.requires

pub returns-in_err-send_mark-clause-part : goal.returns-in_err-send_mark-clause-part
returns-in_err-send_mark-clause-part c =
    let from = c.args.from.now in
    let to = c.args.to.now in
    let w = c.args.parts.now in
    in_part_then to from w _ _ (released_back to from w _ c.in_ok-release.ensures.ok) (in_part_none to from _ _ c.in_err-send_mark.ensures.err)

pub deliver_all-requires : goal.deliver_all-requires
deliver_all-requires c =
    let from = c.args.from.now in
    let to = c.args.to.now in
    let w = c.args.parts.now in
    in_part_linked to from from to w _ (marked_back to from w _ _ c.in_ok-release.ensures.ok c.in_ok-send_mark.ensures.ok) c.requires

pub returns-in_err-deliver_all-clause-part : goal.returns-in_err-deliver_all-clause-part
returns-in_err-deliver_all-clause-part c =
    let from = c.args.from.now in
    let to = c.args.to.now in
    let w = c.args.parts.now in
    in_part_then to from w _ _ (marked_back to from w _ _ c.in_ok-release.ensures.ok c.in_ok-send_mark.ensures.ok) (travels_back to from _ _ c.deliver_all.ensures.travels)

pub returns-clause-ok : goal.returns-clause-ok
returns-clause-ok c =
    let from = c.args.from.now in
    let to = c.args.to.now in
    c.in_ok-deliver_all.ensures.ok ∙ ap (world_deliver from to) (c.in_ok-send_mark.ensures.ok ∙ ap (world_send_mark from to) c.in_ok-release.ensures.ok)

pub returns-clause-part : goal.returns-clause-part
returns-clause-part c =
    let from = c.args.from.now in
    let to = c.args.to.now in
    let w = c.args.parts.now in
    in_part_then to from w _ _ (marked_back to from w _ _ c.in_ok-release.ensures.ok c.in_ok-send_mark.ensures.ok) (travels_back to from _ _ c.deliver_all.ensures.travels)
