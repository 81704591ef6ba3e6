use Rattle.rep_lists.proofs.Places.{drop_from_place}
use Rattle.page_text.specs.Pages.{table_bytes}
use Rattle.page_text.proofs.Putting.{put_more}
use Rattle.page_text.proofs.parts.add_tables.Goals as goal

pub loop-table-preserved : goal.loop-table-preserved
loop-table-preserved c =
    put_more table_bytes _ _ _ _ _ _ c.loop-table.invariant
    (drop_from_place c.args.tables.now c.loop-table.table-index c.table-item.result c.loop-table-test.true c.table-item.is)
    c.in_ok-add_table.ensures
