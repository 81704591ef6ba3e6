use Rattle.std.proofs.Common.{sym, subst}
use Rattle.net_plan.specs.Directions.{HasDirection}
use Rattle.world_state.specs.World.{WorldState}
use Rattle.world_calls.proofs.Whole.{fates_linked}
use Rattle.world_calls.proofs.fates.add_call_fates.Goals as goal

pub put_fates-requires : goal.put_fates-requires
put_fates-requires c =
    let from = c.args.from.now in
    let to = c.args.to.now in
    subst (λ (w : WorldState). HasDirection w.procs.net from to) (sym c.parts.view_is) (fates_linked from to c.args.parts.now c.args.fates.now c.requires.built c.requires.passes).calls_there
