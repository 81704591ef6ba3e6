-- Testing part by part.
use Rattle.std.proofs.Common.{drop}
use Rattle.std.specs.Prelude.{◌↔◌}
use Rattle.std.specs.List.{AllByRecursion}
use Rattle.packet_code.specs.Limits.{IsPlainPart}
use Rattle.packet_code.proofs.limits.is_each_part_plain.Given as goal

-- what is left decides
abbrev pub invariant-loop-part : goal.invariant-loop-part
invariant-loop-part l = AllByRecursion IsPlainPart l.parts ↔ AllByRecursion IsPlainPart (drop l.part-index l.parts)
