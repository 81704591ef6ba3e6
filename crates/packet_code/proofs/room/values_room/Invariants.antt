-- The values looked through from the front.
use Rattle.std.proofs.Common.{drop}
use Rattle.std.specs.Prelude.{◌↔◌}
use Rattle.std.specs.List.{AllByRecursion}
use Rattle.packet_code.specs.Texts.{HasTextForm}
use Rattle.packet_code.proofs.room.values_room.Given as goal

-- what is left decides
abbrev pub invariant-loop-value : goal.invariant-loop-value
invariant-loop-value l = AllByRecursion HasTextForm l.values ↔ AllByRecursion HasTextForm (drop l.value-index l.values)
