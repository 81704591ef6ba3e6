-- Making cells one by one.
use Rattle.std.proofs.Common.{◌≡◌, ◌++◌, drop, map}
use Rattle.table_cells.specs.Cells.{cells_from, row_cells}
use Rattle.table_cells.proofs.tables.cells_of.Given as goal

-- those so far and those to come
abbrev pub invariant-loop-column : goal.invariant-loop-column
invariant-loop-column l = l.cells.items ++ cells_from (map (λ master. master.now) l.masters) l.table l.key l.column (drop l.column l.row) ≡ row_cells (map (λ master. master.now) l.masters) l.table l.columns l.row
