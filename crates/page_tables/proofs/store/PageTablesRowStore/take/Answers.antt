use Rattle.std.proofs.Common.{◌<◌, length, sym, subst}
use Rattle.rep_schema.proofs.TableSteps.{IsTable-take}
use Rattle.rep_schema.specs.Putting.{StoreState}
use Rattle.page_tables.proofs.OneTable.{stored_is_table, in_stored, rows_of-stored, spare-stored, spare-set, spare-set_other, rows_in-set, AreTables-stored, AreIndexed-set}
use Rattle.page_tables.proofs.store.PageTablesRowStore.take.Goals as goal

-- the table is in rising order
pub take-requires : goal.take-requires
take-requires c =
    let below = subst (λ (s : StoreState). c.args.table < length s.schema.tables) (sym c.self.view_is) c.requires in
    let is = stored_is_table _ _ _ _ below c.self.invariant.0 c.index_mut-rows.ensures.value in
    rw c.columns_of-columns.ensures is.rising

pub invariant_of-self : goal.invariant_of-self
invariant_of-self c =
    let below = subst (λ (s : StoreState). c.args.table < length s.schema.tables) (sym c.self.view_is) c.requires in
    let is = stored_is_table _ _ _ _ below c.self.invariant.0 c.index_mut-rows.ensures.value in
    (AreTables-stored _ _ _ _ c.self.invariant.0 (rw (c.take.ensures.rows, c.columns_of-columns.ensures) (IsTable-take _ _ _ _ is)), AreIndexed-set _ _ _ c.index_mut-rows.result.now _ c.index_mut-rows.ensures.value c.take.ensures.uniques c.self.invariant.1)

pub returns-clause-tables : goal.returns-clause-tables
returns-clause-tables c =
    let below = subst (λ (s : StoreState). c.args.table < length s.schema.tables) (sym c.self.view_is) c.requires in
    let rows = rows_of-stored _ _ (in_stored _ _ _ below c.self.invariant.0) _ c.index_mut-rows.ensures.value in
    rw (← c.self.view_is, rows, ← c.columns_of-columns.ensures, ← c.values.ensures.value, ← c.take.ensures.rows) (rows_in-set _ _ _)

pub returns-clause-room : goal.returns-clause-room
returns-clause-room c =
    let below = subst (λ (s : StoreState). c.args.table < length s.schema.tables) (sym c.self.view_is) c.requires in
    let in_range = in_stored _ _ _ below c.self.invariant.0 in
    rw (← c.self.view_is, spare-stored _ _ in_range _ c.index_mut-rows.ensures.value, spare-set _ _ in_range _) c.take.ensures.room

pub returns-clause-others : goal.returns-clause-others
returns-clause-others c = λ k other. rw (← c.self.view_is) (spare-set_other _ _ k _ other)
