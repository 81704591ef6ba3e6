use Rattle.std.proofs.Common.{◌<◌, length, sym, subst}
use Rattle.rep_schema.specs.Putting.{StoreState}
use Rattle.page_tables.proofs.OneTable.{stored_is_table}
use Rattle.page_tables.proofs.store.PageTablesRowStore.get.Goals as goal

-- the table is in rising order
pub get-requires : goal.get-requires
get-requires c =
    let below = subst (λ (s : StoreState). c.args.table < length s.schema.tables) (sym c.self.view_is) c.requires in
    let is = stored_is_table _ _ _ _ below c.self.invariant.0 c.index-rows.ensures in
    rw c.columns_of-columns.ensures is.rising
