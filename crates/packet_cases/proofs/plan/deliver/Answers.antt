use Rattle.std.proofs.Common.{refl}
use Rattle.net_plan.specs.Directions.{delivered}
use Rattle.packet_cases.proofs.StillThere.{HasDirection-at}
use Rattle.packet_cases.proofs.plan.deliver.Goals as goal

pub returns : goal.returns
returns c = rw c.deliver.ensures.kept (HasDirection-at c.args.way.now.from c.args.way.now.to delivered (λ d. refl) c.args.net.now c.requires)
