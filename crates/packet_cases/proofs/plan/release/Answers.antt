use Rattle.std.proofs.Common.{refl}
use Rattle.net_plan.specs.Directions.{released}
use Rattle.packet_cases.proofs.StillThere.{HasDirection-tried}
use Rattle.packet_cases.proofs.plan.release.Goals as goal

pub returns : goal.returns
returns c = HasDirection-tried c.release.result c.args.way.now.from c.args.way.now.to released (λ d. refl) c.args.net.now c.release.new.self c.release.ensures.ok c.release.ensures.err c.requires
