-- Testing column by column.
use Rattle.std.proofs.Common.{◌≡◌, drop}
use Rattle.std.specs.List.{list_any}
use Rattle.dependency_index.specs.Tokens.{is_constrained}
use Rattle.dependency_index.proofs.touched.has_constrained_place.Given as goal

-- what is left decides
abbrev pub invariant-loop-column : goal.invariant-loop-column
invariant-loop-column l = list_any (is_constrained l.schema l.table) l.columns ≡ list_any (is_constrained l.schema l.table) (drop l.column-index l.columns)
