use Rattle.std.proofs.Common.{refl}
use Rattle.world.specs.Following.{Take, Lose}
use Rattle.world_calls.proofs.Travelling.{travel_one}
use Rattle.world_calls.proofs.Delivering.{calls_deliver_one-some}
use Rattle.world_calls.proofs.deliver.deliver_one.Goals as goal

pub returns-in_default-clause-travels : goal.returns-in_default-clause-travels
returns-in_default-clause-travels c = rw (← c.procs.view_is, c.in_default.ensures.kept) (travel_one c.args.from.now c.args.to.now Lose _ _ refl)

pub returns-in_err-accept_at-clause-travels : goal.returns-in_err-accept_at-clause-travels
returns-in_err-accept_at-clause-travels c =
    rw (← c.procs.view_is, c.in-Some.ensures.kept, c.in_err-accept_at.ensures.err) (travel_one c.args.from.now c.args.to.now Lose _ _ refl)

pub returns-clause-travels : goal.returns-clause-travels
returns-clause-travels c =
    rw (← c.procs.view_is, c.in-Some.ensures.kept) (travel_one c.args.from.now c.args.to.now Take _ _
    (calls_deliver_one-some c.args.from.now c.args.to.now _ c.in-Some.sealed c.accept_at.new.sites.items c.in-Some.ensures.value c.in_ok-accept_at.ensures.ok))
