-- Making rows one by one.
use Rattle.std.proofs.Common.{◌≡◌, ◌++◌, drop, map}
use Rattle.rep_schema.specs.Tables.{rows_of}
use Rattle.table_cells.specs.Cells.{row_cells}
use Rattle.table_cells.proofs.tables.rows_of.Given as goal

-- those so far and those to come
abbrev pub invariant-loop-place : goal.invariant-loop-place
invariant-loop-place l = l.rows.items ++ map (row_cells (map (λ master. master.now) l.masters) l.table l.columns) (drop l.place (rows_of l.store.tables l.table)) ≡ map (row_cells (map (λ master. master.now) l.masters) l.table l.columns) (rows_of l.store.tables l.table)
