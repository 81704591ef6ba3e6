-- What comes to the receiver.
use Rattle.std.proofs.Common.{◌≡◌, ap, ◌∙◌, length}
use Rattle.rep_values.specs.declared.name.SiteName.{SiteName}
use Rattle.world_state.specs.World.{WorldState}
use Rattle.world_state.specs.Pushes.{positions_above, world_release, world_send_above, world_deliver}
use Rattle.world.specs.Following.{Release, There, PushesInPart}
use Rattle.world.proofs.Following.{in_part_none, in_part_one, in_part_then, in_part_linked}
use Rattle.world_push.proofs.Travelling.{travels_there}
use Rattle.world_push.proofs.pushing.send_and_deliver.Goals as goal

released_there : (from to : SiteName) (w y : WorldState) → y ≡ world_release from to w → PushesInPart from to w y
released_there from to w y is = in_part_one from to (There Release) w y is

sent_there : (from to : SiteName) (w y z : WorldState) → y ≡ world_release from to w → PushesInPart from to y z → PushesInPart from to w z
sent_there from to w y z released sent = in_part_then from to w y z (released_there from to w y released) sent

pub returns-in_err-release-clause-part : goal.returns-in_err-release-clause-part
returns-in_err-release-clause-part c = in_part_none _ _ _ _ c.in_err-release.ensures.err

pub send_above-requires : goal.send_above-requires
send_above-requires c =
    let from = c.args.from.now in
    let to = c.args.to.now in
    let w = c.args.parts.now in
    in_part_linked from to from to w _ (released_there from to w _ c.in_ok-release.ensures.ok) c.requires

pub returns-in_err-sent-clause-part : goal.returns-in_err-sent-clause-part
returns-in_err-sent-clause-part c = sent_there c.args.from.now c.args.to.now c.args.parts.now _ _ c.in_ok-release.ensures.ok c.send_above.ensures.part

pub deliver_all-requires : goal.deliver_all-requires
deliver_all-requires c =
    let from = c.args.from.now in
    let to = c.args.to.now in
    let w = c.args.parts.now in
    in_part_linked from to from to w _ (sent_there from to w _ _ c.in_ok-release.ensures.ok c.send_above.ensures.part) c.requires

pub returns-in_err-deliver_all-clause-part : goal.returns-in_err-deliver_all-clause-part
returns-in_err-deliver_all-clause-part c =
    let from = c.args.from.now in
    let to = c.args.to.now in
    let w = c.args.parts.now in
    in_part_then from to w _ _ (sent_there from to w _ _ c.in_ok-release.ensures.ok c.send_above.ensures.part) (travels_there from to _ _ c.deliver_all.ensures.travels)

pub returns-clause-ok : goal.returns-clause-ok
returns-clause-ok c =
    let from = c.args.from.now in
    let to = c.args.to.now in
    c.in_ok-deliver_all.ensures.ok ∙ ap (world_deliver from to) (c.in_ok-sent.ensures.ok ∙ ap (world_send_above from to c.args.count) c.in_ok-release.ensures.ok)

pub returns-clause-sent : goal.returns-clause-sent
returns-clause-sent c = c.in_ok-sent.ensures.sent ∙ ap (λ (w : WorldState). length (positions_above c.args.from.now c.args.to.now c.args.count w)) c.in_ok-release.ensures.ok

pub returns-clause-part : goal.returns-clause-part
returns-clause-part c =
    let from = c.args.from.now in
    let to = c.args.to.now in
    let w = c.args.parts.now in
    in_part_then from to w _ _ (sent_there from to w _ _ c.in_ok-release.ensures.ok c.send_above.ensures.part) (travels_there from to _ _ c.deliver_all.ensures.travels)
