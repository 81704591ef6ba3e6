-- What comes to the receiver.
use Rattle.std.proofs.Common.{◌≡◌, ap, ◌∙◌, length}
use Rattle.rep_values.specs.declared.name.SiteName.{SiteName}
use Rattle.world_state.specs.Procs.{Procs}
use Rattle.world_state.specs.CallPushes.{calls_positions, calls_release, calls_send_above, calls_deliver}
use Rattle.world.specs.Following.{Release, There}
use Rattle.world.specs.Calling.{CallsPushInPart}
use Rattle.world.proofs.CallsFollowing.{calls_part_none, calls_part_one, calls_part_then, calls_part_linked}
use Rattle.world_calls.proofs.Travelling.{travel_there}
use Rattle.world_calls.proofs.pushing.send_and_deliver.Goals as goal

released_there : (from to : SiteName) (p q : Procs) → q ≡ calls_release from to p → CallsPushInPart from to p q
released_there from to p q is = calls_part_one from to (There Release) p q is

sent_there : (from to : SiteName) (p q r : Procs) → q ≡ calls_release from to p → CallsPushInPart from to q r → CallsPushInPart from to p r
sent_there from to p q r released sent = calls_part_then from to p q r (released_there from to p q released) sent

pub returns-in_err-release-clause-part : goal.returns-in_err-release-clause-part
returns-in_err-release-clause-part c = calls_part_none _ _ _ _ c.in_err-release.ensures.err

pub send_above-requires : goal.send_above-requires
send_above-requires c =
    let from = c.args.from.now in
    let to = c.args.to.now in
    let p = c.args.procs.now in
    calls_part_linked from to from to p _ (released_there from to p _ c.in_ok-release.ensures.ok) c.requires

pub returns-in_err-sent-clause-part : goal.returns-in_err-sent-clause-part
returns-in_err-sent-clause-part c = sent_there c.args.from.now c.args.to.now c.args.procs.now _ _ c.in_ok-release.ensures.ok c.send_above.ensures.part

pub deliver_all-requires : goal.deliver_all-requires
deliver_all-requires c =
    let from = c.args.from.now in
    let to = c.args.to.now in
    let p = c.args.procs.now in
    calls_part_linked from to from to p _ (sent_there from to p _ _ c.in_ok-release.ensures.ok c.send_above.ensures.part) c.requires

pub returns-in_err-deliver_all-clause-part : goal.returns-in_err-deliver_all-clause-part
returns-in_err-deliver_all-clause-part c =
    let from = c.args.from.now in
    let to = c.args.to.now in
    let p = c.args.procs.now in
    calls_part_then from to p _ _ (sent_there from to p _ _ c.in_ok-release.ensures.ok c.send_above.ensures.part) (travel_there from to _ _ c.deliver_all.ensures.travels)

pub returns-clause-ok : goal.returns-clause-ok
returns-clause-ok c =
    let from = c.args.from.now in
    let to = c.args.to.now in
    c.in_ok-deliver_all.ensures.ok ∙ ap (calls_deliver from to) (c.in_ok-sent.ensures.ok ∙ ap (calls_send_above from to) c.in_ok-release.ensures.ok)

pub returns-clause-sent : goal.returns-clause-sent
returns-clause-sent c = c.in_ok-sent.ensures.sent ∙ ap (λ (p : Procs). length (calls_positions c.args.from.now c.args.to.now p)) c.in_ok-release.ensures.ok

pub returns-clause-part : goal.returns-clause-part
returns-clause-part c =
    let from = c.args.from.now in
    let to = c.args.to.now in
    let p = c.args.procs.now in
    calls_part_then from to p _ _ (sent_there from to p _ _ c.in_ok-release.ensures.ok c.send_above.ensures.part) (travel_there from to _ _ c.deliver_all.ensures.travels)
