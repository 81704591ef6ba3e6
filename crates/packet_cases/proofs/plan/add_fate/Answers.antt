use Rattle.std.proofs.Common.{refl, [], ◌∷◌}
use Rattle.net_plan.specs.Directions.{with_fates}
use Rattle.packet_cases.proofs.StillThere.{HasDirection-tried}
use Rattle.packet_cases.proofs.plan.add_fate.Goals as goal

pub returns : goal.returns
returns c = HasDirection-tried c.add_fates.result c.args.way.now.from c.args.way.now.to (with_fates (c.args.fate ∷ [])) (λ d. refl) c.args.net.now c.add_fates.new.self c.add_fates.ensures.ok c.add_fates.ensures.err c.requires
