use Rattle.std.proofs.Common.{◌<◌, length, sym, subst}
use Rattle.rep_schema.specs.Putting.{StoreState}
use Rattle.page_tables.proofs.OneTable.{stored_is_table, in_stored, spare-stored, spare-set, spare-set_other, rows_in-set_same, AreTables-stored, AreIndexed-set}
use Rattle.page_tables.proofs.store.PageTablesRowStore.reserve.Goals as goal

pub invariant_of-self : goal.invariant_of-self
invariant_of-self c =
    let below = subst (λ (s : StoreState). c.args.table < length s.schema.tables) (sym c.self.view_is) c.requires in
    let is = stored_is_table _ _ _ _ below c.self.invariant.0 c.index_mut-stored.ensures.value in
    (AreTables-stored _ _ _ _ c.self.invariant.0 (rw c.reserve.ensures.rows is), AreIndexed-set _ _ _ c.index_mut-stored.result.now _ c.index_mut-stored.ensures.value c.reserve.ensures.uniques c.self.invariant.1)

pub returns-clause-ok : goal.returns-clause-ok
returns-clause-ok c =
    let below = subst (λ (s : StoreState). c.args.table < length s.schema.tables) (sym c.self.view_is) c.requires in
    rw (spare-set _ _ (in_stored _ _ _ below c.self.invariant.0) _) c.reserve.ensures.ok

pub returns-clause-succeeds : goal.returns-clause-succeeds
returns-clause-succeeds c =
    let below = subst (λ (s : StoreState). c.args.table < length s.schema.tables) (sym c.self.view_is) c.requires in
    let in_range = in_stored _ _ _ below c.self.invariant.0 in
    rw (← c.self.view_is, spare-stored _ _ in_range _ c.index_mut-stored.ensures.value) c.reserve.ensures.succeeds

pub returns-clause-kept : goal.returns-clause-kept
returns-clause-kept c =
    let below = subst (λ (s : StoreState). c.args.table < length s.schema.tables) (sym c.self.view_is) c.requires in
    let in_range = in_stored _ _ _ below c.self.invariant.0 in
    rw (← c.self.view_is, spare-stored _ _ in_range _ c.index_mut-stored.ensures.value, spare-set _ _ in_range _) c.reserve.ensures.kept

pub returns-clause-tables : goal.returns-clause-tables
returns-clause-tables c = rw (← c.self.view_is) (rows_in-set_same _ _ _ _ c.index_mut-stored.ensures.value c.reserve.ensures.rows)

pub returns-clause-others : goal.returns-clause-others
returns-clause-others c = λ k other. rw (← c.self.view_is) (spare-set_other _ _ k _ other)
