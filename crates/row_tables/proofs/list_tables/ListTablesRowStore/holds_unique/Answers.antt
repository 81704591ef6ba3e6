use Rattle.std.proofs.Common.{◌<◌, length, sym, subst}
use Rattle.rep_schema.specs.Putting.{StoreState}
use Rattle.row_tables.proofs.OneTable.{in_stored, rows_of-stored}
use Rattle.row_tables.proofs.list_tables.ListTablesRowStore.holds_unique.Goals as goal

pub returns : goal.returns
returns c =
    let below = subst (λ (s : StoreState). c.args.table < length s.schema.tables) (sym c.self.view_is) c.requires.table in
    let rows = rows_of-stored _ _ (in_stored _ _ _ below c.self.invariant) _ c.index-rows.ensures in
    rw (← c.self.view_is, rows, ← c.columns_of-columns.ensures, ← c.constraint_columns-places.ensures, ← c.values.ensures.value) c.holds.ensures
