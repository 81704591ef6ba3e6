use Rattle.std.proofs.Common.{refl}
use Rattle.net_plan.specs.Directions.{without_fates}
use Rattle.packet_cases.proofs.StillThere.{HasDirection-at}
use Rattle.packet_cases.proofs.plan.clear.Goals as goal

pub returns : goal.returns
returns c = rw c.clear_fates.ensures (HasDirection-at c.args.way.now.from c.args.way.now.to without_fates (λ d. refl) c.args.net.now c.requires)
