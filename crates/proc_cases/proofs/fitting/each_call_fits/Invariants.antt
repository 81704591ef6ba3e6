-- All calls fit where those from the place on do.
use Rattle.std.proofs.Common.{◌≡◌, true, drop}
use Rattle.proc_state.specs.Calls.{calls_fit}
use Rattle.proc_cases.proofs.fitting.each_call_fits.Given as goal

abbrev pub invariant-loop-call : goal.invariant-loop-call
invariant-loop-call l = calls_fit l.schema l.procedures (drop l.call-index l.calls) ≡ true → calls_fit l.schema l.procedures l.calls ≡ true
