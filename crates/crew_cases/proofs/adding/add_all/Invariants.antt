use Rattle.site_gate.specs.Passes.{IsPassOf}
use Rattle.crew_cases.proofs.adding.add_all.Given as goal

abbrev pub invariant-loop-number : goal.invariant-loop-number
invariant-loop-number g l = IsPassOf l.gate l.pass
