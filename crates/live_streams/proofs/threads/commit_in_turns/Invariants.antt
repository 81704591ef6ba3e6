use Rattle.site_gate.specs.Passes.{IsPassOf}
use Rattle.live_streams.proofs.threads.commit_in_turns.Given as goal

-- the pass is the gate's
abbrev pub invariant-loop-done : goal.invariant-loop-done
invariant-loop-done g l = IsPassOf l.gate l.pass
