-- Testing part by part.
use Rattle.std.proofs.Common.{◌≡◌, drop}
use Rattle.std.specs.List.{list_any}
use Rattle.dependency_index.specs.Tokens.{has_constrained_column}
use Rattle.dependency_index.proofs.touched.has_constrained_part.Given as goal

-- what is left decides
abbrev pub invariant-loop-part : goal.invariant-loop-part
invariant-loop-part l = list_any (has_constrained_column l.schema l.table) l.parts ≡ list_any (has_constrained_column l.schema l.table) (drop l.part-index l.parts)
