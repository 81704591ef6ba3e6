use Rattle.std.proofs.Common.{refl}
use Rattle.net_plan.specs.Directions.{with_link}
use Rattle.packet_cases.proofs.StillThere.{HasDirection-at}
use Rattle.packet_cases.proofs.plan.set_link.Goals as goal

pub returns : goal.returns
returns c = rw c.set_link.ensures (HasDirection-at c.args.way.now.from c.args.way.now.to (with_link c.args.up) (λ d. refl) c.args.net.now c.requires)
