use Rattle.std.proofs.Common.{◌<◌, length, sym, subst}
use Rattle.rep_schema.specs.Tables.{constraints_of}
use Rattle.rep_schema.specs.Putting.{StoreState}
use Rattle.page_tables.proofs.OneTable.{in_stored, rows_of-stored, uniques_of, constraint_at, constraint_below}
use Rattle.page_tables.proofs.store.PageTablesRowStore.holds_unique.Goals as goal

-- the table has an index for the constraint
pub holds-requires : goal.holds-requires
holds-requires c =
    let below = subst (λ (s : StoreState). c.args.table < length s.schema.tables) (sym c.self.view_is) c.requires.table in
    let constraint = subst (λ (s : StoreState). c.args.constraint < length (constraints_of s.schema c.args.table)) (sym c.self.view_is) c.requires.constraint in
    let in_range = in_stored _ _ _ below c.self.invariant.0 in
    constraint_below c.self.inside.schema c.args.table c.args.constraint c.index-rows.result.now.uniques (uniques_of c.self.inside.schema c.self.inside.stored.items c.args.table c.index-rows.result.now in_range c.self.invariant.1 c.index-rows.ensures) constraint

pub returns : goal.returns
returns c =
    let below = subst (λ (s : StoreState). c.args.table < length s.schema.tables) (sym c.self.view_is) c.requires.table in
    let in_range = in_stored _ _ _ below c.self.invariant.0 in
    let rows = rows_of-stored _ _ in_range _ c.index-rows.ensures in
    let places = constraint_at c.self.inside.schema c.args.table c.args.constraint c.index-rows.result.now.uniques (uniques_of c.self.inside.schema c.self.inside.stored.items c.args.table c.index-rows.result.now in_range c.self.invariant.1 c.index-rows.ensures) in
    rw (← c.self.view_is, rows, ← c.columns_of-columns.ensures, ← places, ← c.values.ensures.value) c.holds.ensures
