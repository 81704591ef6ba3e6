-- Taking in packet by packet.
use Rattle.std.proofs.Common.{refl, sym, ◌∙◌}
use Rattle.world_push.proofs.Travelling.{travels_none, travels_then, travels_linked}
use Rattle.world_push.proofs.Delivering.{deliver-end, way-shorter, still-to_deliver}
use Rattle.world_push.proofs.deliver.deliver_all.Goals as goal

pub packets-init : goal.packets-init
packets-init c = record { left = refl; travels = travels_none _ _ _ _ refl }

pub deliver_one-requires : goal.deliver_one-requires
deliver_one-requires c = travels_linked _ _ _ _ _ _ c.packets.invariant.travels c.requires

pub returns-in_err-deliver_one-clause-travels : goal.returns-in_err-deliver_one-clause-travels
returns-in_err-deliver_one-clause-travels c = travels_then _ _ _ _ _ c.packets.invariant.travels c.deliver_one.ensures.travels

pub returns-then-not-branch-clause-ok : goal.returns-then-not-branch-clause-ok
returns-then-not-branch-clause-ok c =
    c.in_ok-deliver_one.ensures.ok ∙ deliver-end c.args.from.now c.args.to.now c.packets.parts (sym c.in_ok-deliver_one.ensures.some ∙ c.if-not-branch.true) ∙ c.packets.invariant.left

pub returns-then-not-branch-clause-travels : goal.returns-then-not-branch-clause-travels
returns-then-not-branch-clause-travels c = travels_then _ _ _ _ _ c.packets.invariant.travels c.in_ok-deliver_one.ensures.travels

pub packets-smaller : goal.packets-smaller
packets-smaller c = way-shorter c.args.from.now c.args.to.now c.packets.parts _ c.in_ok-deliver_one.ensures.ok (sym c.in_ok-deliver_one.ensures.some ∙ c.if-not-branch.false)

pub packets-preserved : goal.packets-preserved
packets-preserved c = record {
  left = still-to_deliver c.args.from.now c.args.to.now c.packets.parts _ _ c.in_ok-deliver_one.ensures.ok c.packets.invariant.left;
  travels = travels_then _ _ _ _ _ c.packets.invariant.travels c.in_ok-deliver_one.ensures.travels;
}
