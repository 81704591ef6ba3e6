-- Testing call by call.
use Rattle.std.proofs.Common.{drop}
use Rattle.std.specs.Prelude.{◌↔◌}
use Rattle.std.specs.List.{AllByRecursion}
use Rattle.conflict_detect.specs.Fits.{CallFits}
use Rattle.conflict_detect.proofs.fitting.each_call_fits.Given as goal

-- what is left decides
abbrev pub invariant-loop-call : goal.invariant-loop-call
invariant-loop-call l = AllByRecursion (CallFits l.schema) l.calls ↔ AllByRecursion (CallFits l.schema) (drop l.call-index l.calls)
