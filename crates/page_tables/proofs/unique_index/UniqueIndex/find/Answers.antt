use Rattle.rep_schema.specs.Tables.{picked}
use Rattle.page_tables.specs.Index.{picked_cmp, values_in}
use Rattle.page_tables.proofs.Parted.{parted_rising}
use Rattle.page_tables.proofs.InIndex.{picked_cmp_total}
use Rattle.page_tables.proofs.unique_index.UniqueIndex.find.Goals as goal

pub find-requires : goal.find-requires
find-requires c =
    let rising = rw (← c.self.view_is) at c.requires in
    rw c.as_slice-places.ensures (parted_rising (values_in c.args.rows.now c.self.inside.columns) picked_cmp picked_cmp_total (picked c.self.inside.columns c.args.row.now) c.self.inside.slots.items rising)
