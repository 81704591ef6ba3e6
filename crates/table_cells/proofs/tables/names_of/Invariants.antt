-- Copying names one by one.
use Rattle.std.proofs.Common.{◌≡◌, ◌++◌, drop, map}
use Rattle.table_cells.proofs.tables.names_of.Given as goal

-- those so far and those to come
abbrev pub invariant-loop-column : goal.invariant-loop-column
invariant-loop-column l = l.names.items ++ map (λ column. column.name) (drop l.column-index l.columns) ≡ map (λ column. column.name) l.columns
