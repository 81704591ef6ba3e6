use Rattle.std.proofs.Common.{◌<◌, length, sym, subst}
use Rattle.rep_schema.specs.Tables.{columns_of, rows_of, RowFits, IsUniqueRow}
use Rattle.rep_schema.proofs.TableSteps.{IsTable-put}
use Rattle.rep_schema.specs.Putting.{StoreState}
use Rattle.row_tables.proofs.OneTable.{stored_is_table, in_stored, rows_of-stored, spare-stored, spare-set, spare-set_other, rows_in-set, AreTables-stored}
use Rattle.row_tables.proofs.list_tables.ListTablesRowStore.put.Goals as goal

pub invariant_of-self : goal.invariant_of-self
invariant_of-self c =
    let below = subst (λ (s : StoreState). c.args.table < length s.schema.tables) (sym c.self.view_is) c.requires.table in
    let fits = subst (λ (s : StoreState). RowFits (columns_of s.schema c.args.table) c.args.row) (sym c.self.view_is) c.requires.fits in
    let unique = subst (λ (s : StoreState). IsUniqueRow s.schema c.args.table c.args.row (rows_of s.tables c.args.table)) (sym c.self.view_is) c.requires.unique in
    let rows = rows_of-stored _ _ (in_stored _ _ _ below c.self.invariant) _ c.index_mut-rows.ensures.value in
    let is = stored_is_table _ _ _ _ below c.self.invariant c.index_mut-rows.ensures.value in
    AreTables-stored _ _ _ _ c.self.invariant (rw (c.put.ensures.rows, c.columns_of-columns.ensures) (IsTable-put _ _ _ _ fits (rw rows at unique) is))

pub returns-clause-tables : goal.returns-clause-tables
returns-clause-tables c =
    let below = subst (λ (s : StoreState). c.args.table < length s.schema.tables) (sym c.self.view_is) c.requires.table in
    let rows = rows_of-stored _ _ (in_stored _ _ _ below c.self.invariant) _ c.index_mut-rows.ensures.value in
    rw (← c.self.view_is, rows, ← c.columns_of-columns.ensures, ← c.put.ensures.rows) (rows_in-set _ _ _)

pub returns-clause-room_added : goal.returns-clause-room_added
returns-clause-room_added c =
    let below = subst (λ (s : StoreState). c.args.table < length s.schema.tables) (sym c.self.view_is) c.requires.table in
    let in_range = in_stored _ _ _ below c.self.invariant in
    rw (← c.self.view_is, spare-stored _ _ in_range _ c.index_mut-rows.ensures.value, spare-set _ _ in_range _) c.put.ensures.room_added

pub returns-clause-room_replaced : goal.returns-clause-room_replaced
returns-clause-room_replaced c =
    let below = subst (λ (s : StoreState). c.args.table < length s.schema.tables) (sym c.self.view_is) c.requires.table in
    let in_range = in_stored _ _ _ below c.self.invariant in
    rw (← c.self.view_is, spare-stored _ _ in_range _ c.index_mut-rows.ensures.value, spare-set _ _ in_range _) c.put.ensures.room_replaced

pub returns-clause-others : goal.returns-clause-others
returns-clause-others c = λ k other. rw (← c.self.view_is) (spare-set_other _ _ k _ other)
