-- Testing call by call.
use Rattle.std.proofs.Common.{drop}
use Rattle.std.specs.Prelude.{◌↔◌}
use Rattle.std.specs.List.{AllByRecursion}
use Rattle.packet_code.specs.Limits.{IsPlainCall}
use Rattle.packet_code.proofs.limits.is_each_call_plain.Given as goal

-- what is left decides
abbrev pub invariant-loop-call : goal.invariant-loop-call
invariant-loop-call l = AllByRecursion IsPlainCall l.calls ↔ AllByRecursion IsPlainCall (drop l.call-index l.calls)
