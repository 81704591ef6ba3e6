use Rattle.std.proofs.Common.{refl, arith}
use Rattle.page_tables.proofs.RoomyIndexes.{roomier_self, stored_roomier}
use Rattle.page_tables.proofs.indexed_rows.IndexedRows.copy.Goals as goal

-- the same order and indexes, and slots with at least as much room
pub returns-clause-stored : goal.returns-clause-stored
returns-clause-stored c =
    let kept = c.args.self.now in
    let slots = c.in_ok-copy.ensures in
    rw (c.in_ok-copy-2.ensures, c.in_ok-copy_indexes.ensures, c.deref.ensures.value)
    (stored_roomier kept.slots c.in_ok-copy.field-0 kept.order kept.order slots.rows slots.free slots.room refl (omega arith) kept.indexes.items kept.indexes.items (roomier_self kept.indexes.items) slots.few c.requires)
