-- Looking at cells one by one.
use Rattle.std.proofs.Common.{◌≡◌, drop}
use Rattle.std.specs.List.{list_all}
use Rattle.table_cells.specs.Cells.{is_unmarked}
use Rattle.table_cells.proofs.tables.is_row_same.Given as goal

-- those to come decide
abbrev pub invariant-loop-cell : goal.invariant-loop-cell
invariant-loop-cell l = list_all (λ cell. is_unmarked cell.look) (drop l.cell-index l.cells) ≡ list_all (λ cell. is_unmarked cell.look) l.cells
