use Rattle.std.specs.Prelude.{option_copied}
use Rattle.std.proofs.Common.{Some, ◌∙◌, refl}
use Rattle.page_tables.proofs.InSlots.{held_row}
use Rattle.page_tables.proofs.RowSteps.{stored_moved}
use Rattle.page_tables.proofs.PutRows.{rising_each, can_move_in, room_listed, room_unlisted, columns_listed, columns_unlisted}
use Rattle.page_tables.proofs.indexed_rows.IndexedRows.replace.Goals as goal

pub unlist-requires : goal.unlist-requires
unlist-requires c = rw c.rows.ensures (rising_each _ _ _ c.requires.stored)

-- the slot has a row, which is handed back
pub list-requires : goal.list-requires
list-requires c =
    let was = held_row _ c.args.slot (c.requires.stored.held c.args.slot c.requires.there) in
    let before = c.as_ref.ensures.value ∙ (c.replace-before.ensures.before ∙ was) in
    rw (c.rows-2.ensures, before, c.unlist.ensures, c.rows.ensures)
    (can_move_in _ c.replace-before.new.self _ _ c.args.slot c.args.row _ c.requires.stored c.replace-before.ensures.here c.requires.there was c.requires.free)

pub returns-clause-room : goal.returns-clause-room
returns-clause-room c =
    let kept = c.args.self.now in
    let one = room_listed kept.slots c.replace-before.new.self kept.order kept.order c.rows-2.result.now c.args.slot (option_copied c.as_ref.result) c.unlist.new.indexes.items c.replace-before.ensures.here.most refl in
    let two = room_unlisted kept.slots kept.slots kept.order kept.order c.rows.result.now c.args.slot (Some c.args.row) kept.indexes.items refl refl in
    rw c.list.ensures (one ∙ rw c.unlist.ensures two)

pub returns-clause-columns : goal.returns-clause-columns
returns-clause-columns c =
    let kept = c.args.self.now in
    let one = columns_listed c.rows-2.result.now c.args.slot (option_copied c.as_ref.result) c.unlist.new.indexes.items in
    let two = columns_unlisted c.rows.result.now c.args.slot (Some c.args.row) kept.indexes.items in
    rw c.list.ensures (one ∙ rw c.unlist.ensures two)

pub returns-clause-stored : goal.returns-clause-stored
returns-clause-stored c =
    let was = held_row _ c.args.slot (c.requires.stored.held c.args.slot c.requires.there) in
    let before = c.as_ref.ensures.value ∙ (c.replace-before.ensures.before ∙ was) in
    rw (c.list.ensures, c.rows-2.ensures, before, c.unlist.ensures, c.rows.ensures)
    (stored_moved _ c.replace-before.new.self _ c.args.slot _ c.args.row c.replace-before.ensures.here c.requires.there was _ c.requires.stored c.requires.free c.replace-before.ensures.number c.replace-before.ensures.free)
