-- Testing part by part.
use Rattle.std.proofs.Common.{drop}
use Rattle.std.specs.Prelude.{◌↔◌}
use Rattle.std.specs.List.{AllByRecursion}
use Rattle.conflict_detect.specs.Fits.{PartFits}
use Rattle.conflict_detect.proofs.fitting.each_part_fits.Given as goal

-- what is left decides
abbrev pub invariant-loop-part : goal.invariant-loop-part
invariant-loop-part l = AllByRecursion (PartFits l.schema l.table) l.parts ↔ AllByRecursion (PartFits l.schema l.table) (drop l.part-index l.parts)
