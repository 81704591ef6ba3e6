-- Words done one after another.
use Rattle.net_plan.specs.Directions.{HasDirection}
use Rattle.packet_cases.proofs.plan.walk.Given as goal

-- the direction is there
abbrev pub invariant-loop-word : goal.invariant-loop-word
invariant-loop-word l = HasDirection l.net l.way.from l.way.to
