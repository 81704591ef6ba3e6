-- The parts looked through from the front.
use Rattle.std.proofs.Common.{drop}
use Rattle.std.specs.Prelude.{◌↔◌}
use Rattle.std.specs.List.{AllByRecursion}
use Rattle.packet_code.specs.Texts.{PartHasTextForm}
use Rattle.packet_code.proofs.room.parts_room.Given as goal

-- what is left decides
abbrev pub invariant-loop-part : goal.invariant-loop-part
invariant-loop-part l = AllByRecursion PartHasTextForm l.parts ↔ AllByRecursion PartHasTextForm (drop l.part-index l.parts)
