-- Testing value by value.
use Rattle.std.proofs.Common.{drop}
use Rattle.std.specs.Prelude.{◌↔◌}
use Rattle.std.specs.List.{AllByRecursion}
use Rattle.packet_code.specs.Limits.{IsPlainValue}
use Rattle.packet_code.proofs.limits.are_plain_values.Given as goal

-- what is left decides
abbrev pub invariant-loop-value : goal.invariant-loop-value
invariant-loop-value l = AllByRecursion IsPlainValue l.values ↔ AllByRecursion IsPlainValue (drop l.value-index l.values)
