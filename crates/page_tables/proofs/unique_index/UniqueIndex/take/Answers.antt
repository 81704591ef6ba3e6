use Rattle.std.proofs.Common.{refl}
use Rattle.page_tables.specs.Index.{picked_cmp, values_in}
use Rattle.page_tables.proofs.Parted.{parted_rising}
use Rattle.page_tables.proofs.InIndex.{picked_cmp_total}
use Rattle.page_tables.proofs.unique_index.UniqueIndex.take.Goals as goal

pub take-requires : goal.take-requires
take-requires c =
    let rising = rw (← c.self.view_is) at c.requires in
    rw (c.as_slice-places.ensures, c.row_in-row.ensures) (parted_rising (values_in c.args.rows.now c.self.inside.columns) picked_cmp picked_cmp_total (values_in c.args.rows.now c.self.inside.columns c.args.slot) c.self.inside.slots.items rising)

pub returns : goal.returns
returns c =
    let items = rw (c.as_slice-places.ensures, c.row_in-row.ensures) at c.take.ensures.items in
    rw (← c.self.view_is, items, c.take.ensures.most) refl
