use Rattle.std.proofs.Common.{◌<◌, length, sym, subst}
use Rattle.rep_schema.specs.Tables.{columns_of, rows_of, RowFits, IsUniqueRow}
use Rattle.rep_schema.proofs.TableSteps.{IsTable-put}
use Rattle.rep_schema.specs.Putting.{StoreState}
use Rattle.page_tables.proofs.OneTable.{stored_is_table, in_stored, rows_of-stored, spare-stored, spare-set, spare-set_other, rows_in-set, AreTables-stored, AreIndexed-set, uniques_of, unheld_in}
use Rattle.page_tables.proofs.store.PageTablesRowStore.put.Goals as goal

pub invariant_of-self : goal.invariant_of-self
invariant_of-self c =
    let below = subst (λ (s : StoreState). c.args.table < length s.schema.tables) (sym c.self.view_is) c.requires.table in
    let fits = subst (λ (s : StoreState). RowFits (columns_of s.schema c.args.table) c.args.row) (sym c.self.view_is) c.requires.fits in
    let unique = subst (λ (s : StoreState). IsUniqueRow s.schema c.args.table c.args.row (rows_of s.tables c.args.table)) (sym c.self.view_is) c.requires.unique in
    let rows = rows_of-stored _ _ (in_stored _ _ _ below c.self.invariant.0) _ c.index_mut-rows.ensures.value in
    let is = stored_is_table _ _ _ _ below c.self.invariant.0 c.index_mut-rows.ensures.value in
    (AreTables-stored _ _ _ _ c.self.invariant.0 (rw (c.put.ensures.rows, c.columns_of-columns.ensures) (IsTable-put _ _ _ _ fits (rw rows at unique) is)), AreIndexed-set _ _ _ c.index_mut-rows.result.now _ c.index_mut-rows.ensures.value c.put.ensures.uniques c.self.invariant.1)

pub returns-clause-tables : goal.returns-clause-tables
returns-clause-tables c =
    let below = subst (λ (s : StoreState). c.args.table < length s.schema.tables) (sym c.self.view_is) c.requires.table in
    let rows = rows_of-stored _ _ (in_stored _ _ _ below c.self.invariant.0) _ c.index_mut-rows.ensures.value in
    rw (← c.self.view_is, rows, ← c.columns_of-columns.ensures, ← c.put.ensures.rows) (rows_in-set _ _ _)

pub returns-clause-room_added : goal.returns-clause-room_added
returns-clause-room_added c =
    let below = subst (λ (s : StoreState). c.args.table < length s.schema.tables) (sym c.self.view_is) c.requires.table in
    let in_range = in_stored _ _ _ below c.self.invariant.0 in
    rw (← c.self.view_is, spare-stored _ _ in_range _ c.index_mut-rows.ensures.value, spare-set _ _ in_range _) c.put.ensures.room_added

pub returns-clause-room_replaced : goal.returns-clause-room_replaced
returns-clause-room_replaced c =
    let below = subst (λ (s : StoreState). c.args.table < length s.schema.tables) (sym c.self.view_is) c.requires.table in
    let in_range = in_stored _ _ _ below c.self.invariant.0 in
    rw (← c.self.view_is, spare-stored _ _ in_range _ c.index_mut-rows.ensures.value, spare-set _ _ in_range _) c.put.ensures.room_replaced

pub returns-clause-others : goal.returns-clause-others
returns-clause-others c = λ k other. rw (← c.self.view_is) (spare-set_other _ _ k _ other)

-- the row has values of its own in each constraint
pub put-requires-clause-unique : goal.put-requires-clause-unique
put-requires-clause-unique c =
    let below = subst (λ (s : StoreState). c.args.table < length s.schema.tables) (sym c.self.view_is) c.requires.table in
    let unique = subst (λ (s : StoreState). IsUniqueRow s.schema c.args.table c.args.row (rows_of s.tables c.args.table)) (sym c.self.view_is) c.requires.unique in
    let in_range = in_stored _ _ _ below c.self.invariant.0 in
    let rows = rows_of-stored _ _ in_range _ c.index_mut-rows.ensures.value in
    rw c.columns_of-columns.ensures (unheld_in c.self.inside.schema c.args.table c.args.row c.index_mut-rows.result.now.rows c.index_mut-rows.result.now.uniques (uniques_of c.self.inside.schema c.self.inside.stored.items c.args.table c.index_mut-rows.result.now in_range c.self.invariant.1 c.index_mut-rows.ensures.value) (rw rows at unique))
