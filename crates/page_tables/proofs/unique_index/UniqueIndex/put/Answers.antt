use Rattle.std.proofs.Common.{◌≡◌, None, refl, ◌∙◌}
use Rattle.page_tables.specs.Index.{picked_cmp, values_in}
use Rattle.page_tables.proofs.Parted.{parted_rising}
use Rattle.page_tables.proofs.InIndex.{picked_cmp_total}
use Rattle.page_tables.proofs.unique_index.UniqueIndex.put.Goals as goal

pub enter-requires-clause-parted : goal.enter-requires-clause-parted
enter-requires-clause-parted c =
    let can = rw (← c.self.view_is) at c.requires in
    rw (c.as_slice-places.ensures, c.row_in-row.ensures) (parted_rising (values_in c.args.rows.now c.self.inside.columns) picked_cmp picked_cmp_total (values_in c.args.rows.now c.self.inside.columns c.args.slot) c.self.inside.slots.items can.rising)

pub returns : goal.returns
returns c =
    let can = rw (← c.self.view_is) at c.requires in
    let found = rw (c.as_slice-places.ensures, c.row_in-row.ensures) at c.enter.ensures.found in
    let none : c.enter.result ≡ None = found ∙ can.none in
    let items = rw (none, c.as_slice-places.ensures, c.row_in-row.ensures) at c.enter.ensures.items in
    rw (← c.self.view_is, items, c.enter.ensures.most) refl
