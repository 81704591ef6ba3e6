-- Taking in packet by packet.
use Rattle.std.proofs.Common.{refl, sym, ◌∙◌}
use Rattle.world_calls.proofs.Travelling.{travel_none, travel_then, travel_linked}
use Rattle.world_calls.proofs.Delivering.{calls_deliver-end, calls_way-shorter, calls_still-to_deliver}
use Rattle.world_calls.proofs.deliver.deliver_all.Goals as goal

pub packets-init : goal.packets-init
packets-init c = record { left = refl; travels = travel_none _ _ _ _ refl }

pub deliver_one-requires : goal.deliver_one-requires
deliver_one-requires c = travel_linked _ _ _ _ _ _ c.packets.invariant.travels c.requires

pub returns-in_err-deliver_one-clause-travels : goal.returns-in_err-deliver_one-clause-travels
returns-in_err-deliver_one-clause-travels c = travel_then _ _ _ _ _ c.packets.invariant.travels c.deliver_one.ensures.travels

pub returns-then-not-branch-clause-ok : goal.returns-then-not-branch-clause-ok
returns-then-not-branch-clause-ok c =
    c.in_ok-deliver_one.ensures.ok ∙ calls_deliver-end c.args.from.now c.args.to.now c.packets.procs (sym c.in_ok-deliver_one.ensures.some ∙ c.if-not-branch.true) ∙ c.packets.invariant.left

pub returns-then-not-branch-clause-travels : goal.returns-then-not-branch-clause-travels
returns-then-not-branch-clause-travels c = travel_then _ _ _ _ _ c.packets.invariant.travels c.in_ok-deliver_one.ensures.travels

pub packets-smaller : goal.packets-smaller
packets-smaller c = calls_way-shorter c.args.from.now c.args.to.now c.packets.procs _ c.in_ok-deliver_one.ensures.ok (sym c.in_ok-deliver_one.ensures.some ∙ c.if-not-branch.false)

pub packets-preserved : goal.packets-preserved
packets-preserved c = record {
  left = calls_still-to_deliver c.args.from.now c.args.to.now c.packets.procs _ _ c.in_ok-deliver_one.ensures.ok c.packets.invariant.left;
  travels = travel_then _ _ _ _ _ c.packets.invariant.travels c.in_ok-deliver_one.ensures.travels;
}
