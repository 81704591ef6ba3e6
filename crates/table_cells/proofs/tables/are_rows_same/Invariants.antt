-- Looking at rows one by one.
use Rattle.std.proofs.Common.{◌≡◌, drop}
use Rattle.std.specs.List.{list_all}
use Rattle.table_cells.specs.Cells.{is_unmarked}
use Rattle.table_cells.proofs.tables.are_rows_same.Given as goal

-- those to come decide
abbrev pub invariant-loop-row : goal.invariant-loop-row
invariant-loop-row l = list_all (list_all (λ cell. is_unmarked cell.look)) (drop l.row-index l.rows) ≡ list_all (list_all (λ cell. is_unmarked cell.look)) l.rows
