use Rattle.std.proofs.Common.{◌≡◌}
use Rattle.std.specs.Arc.{arc_value}
use Rattle.site_gate.specs.Passes.{IsPassOf, opening_of}
use Rattle.parallel_apply.proofs.workers.Workers.offer.Given as goal

-- the pass is the gate's, and knows as much of the opening
abbrev pub invariant-loop-number : goal.invariant-loop-number
invariant-loop-number g l = IsPassOf (arc_value l.gate) l.pass × (opening_of l.pass ≡ opening_of l.fn.pass)
