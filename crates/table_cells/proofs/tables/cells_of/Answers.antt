-- A cell more is that of the next value.
use Rattle.std.proofs.Common.{map}
use Rattle.rep_lists.proofs.Places.{drop_from_place}
use Rattle.table_cells.proofs.Making.{cells_more}
use Rattle.table_cells.proofs.tables.cells_of.Goals as goal

pub loop-column-preserved : goal.loop-column-preserved
loop-column-preserved c =
    cells_more (map (λ master. master.now) c.args.masters.now) c.args.table c.as_slice-key.result.now _ _ c.loop-column.column _ _ _ _ _ c.loop-column.invariant
    (drop_from_place c.args.row.now c.loop-column.column c.index-row-column.result c.loop-column-test.true c.index-row-column.is)
    c.in_ok-cell_of.ensures c.in_ok-push.ensures.items
