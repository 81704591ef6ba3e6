-- What is held, and the mark behind it.
use Rattle.std.proofs.Common.{◌≡◌, ap, ◌∙◌}
use Rattle.rep_values.specs.declared.name.SiteName.{SiteName}
use Rattle.world_state.specs.Procs.{Procs}
use Rattle.world_state.specs.CallPushes.{calls_release, calls_send_mark, calls_deliver}
use Rattle.world.specs.Following.{Release, Back, SendMark}
use Rattle.world.specs.Calling.{CallsPushInPart}
use Rattle.world.proofs.CallsFollowing.{calls_part_none, calls_part_one, calls_part_then, calls_part_linked}
use Rattle.world_calls.proofs.Travelling.{travel_back}
use Rattle.world_calls.proofs.marks.deliver_mark.Goals as goal

-- the mark of a push from one site to another goes back
released_back : (from to : SiteName) (p q : Procs) → q ≡ calls_release to from p → CallsPushInPart from to p q
released_back from to p q is = calls_part_one from to (Back Release) p q is

marked_back : (from to : SiteName) (p q r : Procs) → q ≡ calls_release to from p → r ≡ calls_send_mark to from q → CallsPushInPart from to p r
marked_back from to p q r released marked = calls_part_then from to p q r (released_back from to p q released) (calls_part_one from to SendMark q r marked)

pub returns-in_err-release-clause-part : goal.returns-in_err-release-clause-part
returns-in_err-release-clause-part c = calls_part_none _ _ _ _ c.in_err-release.ensures.err

pub send_mark-requires : goal.send_mark-requires
send_mark-requires c =
    let from = c.args.from.now in
    let to = c.args.to.now in
    let p = c.args.procs.now in
    calls_part_linked to from from to p _ (released_back to from p _ c.in_ok-release.ensures.ok) c.requires

pub returns-in_err-send_mark-clause-part : goal.returns-in_err-send_mark-clause-part
returns-in_err-send_mark-clause-part c =
    let from = c.args.from.now in
    let to = c.args.to.now in
    let p = c.args.procs.now in
    calls_part_then to from p _ _ (released_back to from p _ c.in_ok-release.ensures.ok) (calls_part_none to from _ _ c.in_err-send_mark.ensures.err)

pub deliver_all-requires : goal.deliver_all-requires
deliver_all-requires c =
    let from = c.args.from.now in
    let to = c.args.to.now in
    let p = c.args.procs.now in
    calls_part_linked to from from to p _ (marked_back to from p _ _ c.in_ok-release.ensures.ok c.in_ok-send_mark.ensures.ok) c.requires

pub returns-in_err-deliver_all-clause-part : goal.returns-in_err-deliver_all-clause-part
returns-in_err-deliver_all-clause-part c =
    let from = c.args.from.now in
    let to = c.args.to.now in
    let p = c.args.procs.now in
    calls_part_then to from p _ _ (marked_back to from p _ _ c.in_ok-release.ensures.ok c.in_ok-send_mark.ensures.ok) (travel_back to from _ _ c.deliver_all.ensures.travels)

pub returns-clause-ok : goal.returns-clause-ok
returns-clause-ok c =
    let from = c.args.from.now in
    let to = c.args.to.now in
    c.in_ok-deliver_all.ensures.ok ∙ ap (calls_deliver from to) (c.in_ok-send_mark.ensures.ok ∙ ap (calls_send_mark from to) c.in_ok-release.ensures.ok)

pub returns-clause-part : goal.returns-clause-part
returns-clause-part c =
    let from = c.args.from.now in
    let to = c.args.to.now in
    let p = c.args.procs.now in
    calls_part_then to from p _ _ (marked_back to from p _ _ c.in_ok-release.ensures.ok c.in_ok-send_mark.ensures.ok) (travel_back to from _ _ c.deliver_all.ensures.travels)
