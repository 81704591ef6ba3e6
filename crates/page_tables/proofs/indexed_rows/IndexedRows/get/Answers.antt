use Rattle.std.proofs.Common.{sym, ap, ◌∙◌}
use Rattle.page_tables.specs.Slots.{slot_row}
use Rattle.page_tables.proofs.InRows.{slots_parted, found_some, found_none}
use Rattle.page_tables.proofs.indexed_rows.IndexedRows.get.Goals as goal

-- the rows rise, so the slots are parted at the key
pub find-requires : goal.find-requires
find-requires c = rw c.rows-rows.ensures (slots_parted c.args.columns.now _ _ c.requires.rising c.args.key.now)

pub returns-in-Some : goal.returns-in-Some
returns-in-Some c =
    let found = rw c.rows-rows.ensures at (sym c.find.ensures ∙ c.in-Some.is) in
    c.row_at.ensures ∙ (ap (λ r. slot_row r c.in-Some.slot) c.rows-rows.ensures ∙ sym (found_some c.args.columns.now _ _ c.requires.stored.held c.args.key.now c.in-Some.slot found))

pub returns-in-None : goal.returns-in-None
returns-in-None c = let none = rw c.rows-rows.ensures at (sym c.find.ensures ∙ c.in-None.is) in sym (found_none c.args.columns.now _ _ c.args.key.now none)
