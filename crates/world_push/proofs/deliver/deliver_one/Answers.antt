use Rattle.std.proofs.Common.{refl}
use Rattle.world.specs.Following.{Take, Lose}
use Rattle.world_push.proofs.Travelling.{travels_one}
use Rattle.world_push.proofs.Delivering.{take-some}
use Rattle.world_push.proofs.deliver.deliver_one.Goals as goal

pub returns-in_default-clause-travels : goal.returns-in_default-clause-travels
returns-in_default-clause-travels c = rw (← c.parts.view_is, c.in_default.ensures.kept) (travels_one c.args.from.now c.args.to.now Lose _ _ refl)

pub returns-in_err-accept_at-clause-travels : goal.returns-in_err-accept_at-clause-travels
returns-in_err-accept_at-clause-travels c =
    rw (← c.parts.view_is, c.in-Some.ensures.kept, c.in_err-accept_at.ensures.err) (travels_one c.args.from.now c.args.to.now Lose _ _ refl)

pub returns-clause-travels : goal.returns-clause-travels
returns-clause-travels c =
    rw (← c.parts.view_is, c.in-Some.ensures.kept) (travels_one c.args.from.now c.args.to.now Take _ _
    (take-some c.args.from.now c.args.to.now _ c.in-Some.sealed c.accept_at.new.sites.items c.in-Some.ensures.value c.in_ok-accept_at.ensures.ok))
