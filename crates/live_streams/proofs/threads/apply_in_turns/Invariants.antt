use Rattle.site_gate.specs.Passes.{IsPassOf}
use Rattle.live_streams.proofs.threads.apply_in_turns.Given as goal

-- the pass is the gate's
abbrev pub invariant-loop : goal.invariant-loop
invariant-loop g l = IsPassOf l.gate l.pass
