use Rattle.std.proofs.Common.{length, map, None, sym, ap, ◌∙◌, refl, arith}
use Rattle.std.specs.Option.{is_some}
use Rattle.rep_lists.specs.RisingLaws.{at_key}
use Rattle.rep_values.specs.Order.{key_cmp}
use Rattle.page_tables.proofs.InIndex.{length-take_found}
use Rattle.page_tables.specs.Slots.{row_in}
use Rattle.page_tables.proofs.InRows.{key_at, slots_parted, found_none, found_some}
use Rattle.page_tables.proofs.PutRows.{rising_each, stored_same, take_absent, taken_there, can_release, rows_without, stored_without, room_unlisted, columns_unlisted}
use Rattle.rep_schema.proofs.FoundRows.{take_row-absent}
use Rattle.page_tables.proofs.indexed_rows.IndexedRows.take.Goals as goal

pub take-requires : goal.take-requires
take-requires c = rw c.rows.ensures (slots_parted c.args.columns.now _ _ c.requires.rising c.args.key.now)

pub unlist-requires : goal.unlist-requires
unlist-requires c = rw c.rows-in-Some.ensures (rising_each _ _ _ c.requires.stored)

pub release-requires-clause-held : goal.release-requires-clause-held
release-requires-clause-held c =
    let found = rw c.rows.ensures at (sym c.take.ensures.taken ∙ c.in-Some.is) in
    c.requires.stored.held c.in-Some.slot (taken_there c.args.columns.now _ _ _ c.requires.stored c.requires.rising c.args.key.now c.in-Some.slot found)

pub release-requires-clause-room : goal.release-requires-clause-room
release-requires-clause-room c =
    let found = rw c.rows.ensures at (sym c.take.ensures.taken ∙ c.in-Some.is) in
    can_release c.args.columns.now _ _ _ c.requires.stored c.requires.rising c.args.key.now c.in-Some.slot found

pub returns-in-Some-clause-taken : goal.returns-in-Some-clause-taken
returns-in-Some-clause-taken c =
    let found = rw c.rows.ensures at (sym c.take.ensures.taken ∙ c.in-Some.is) in
    c.release.ensures.row ∙ sym (found_some c.args.columns.now _ _ c.requires.stored.held c.args.key.now c.in-Some.slot found)

pub returns-in-Some-clause-rows : goal.returns-in-Some-clause-rows
returns-in-Some-clause-rows c =
    let found = rw c.rows.ensures at (sym c.take.ensures.taken ∙ c.in-Some.is) in
    let taken = rw c.rows.ensures at c.take.ensures.items in
    rows_without c.args.columns.now _ _ _ c.requires.stored c.requires.rising c.args.key.now c.in-Some.slot found _ c.take.new.self c.release.ensures.here taken

pub returns-in-Some-clause-room : goal.returns-in-Some-clause-room
returns-in-Some-clause-room c = let kept = c.args.self.now in rw c.unlist.ensures (room_unlisted kept.slots c.release.new.self kept.order c.take.new.self c.rows-in-Some.result.now c.in-Some.slot None kept.indexes.items c.release.ensures.here.most c.take.ensures.most)

pub returns-in-Some-clause-columns : goal.returns-in-Some-clause-columns
returns-in-Some-clause-columns c = rw c.unlist.ensures (columns_unlisted c.rows-in-Some.result.now c.in-Some.slot None c.args.self.now.indexes.items)

pub returns-in-Some-clause-stored : goal.returns-in-Some-clause-stored
returns-in-Some-clause-stored c =
    let found = rw c.rows.ensures at (sym c.take.ensures.taken ∙ c.in-Some.is) in
    let taken = rw c.rows.ensures at c.take.ensures.items in
    rw (c.unlist.ensures, c.rows-in-Some.ensures)
    (stored_without c.args.columns.now _ _ _ c.requires.stored c.requires.rising c.args.key.now c.in-Some.slot found _ _ c.release.ensures.here taken c.take.ensures.most c.release.ensures.number c.release.ensures.free)

pub returns-in-None-clause-taken : goal.returns-in-None-clause-taken
returns-in-None-clause-taken c =
    let none = rw c.rows.ensures at (sym c.take.ensures.taken ∙ c.in-None.is) in
    sym (found_none c.args.columns.now _ _ c.args.key.now none)

pub returns-in-None-clause-rows : goal.returns-in-None-clause-rows
returns-in-None-clause-rows c =
    let none = rw c.rows.ensures at (sym c.take.ensures.taken ∙ c.in-None.is) in
    let taken = rw c.rows.ensures at c.take.ensures.items in
    let same = taken ∙ take_absent _ _ none in
    ap (map (row_in c.args.self.now.slots.rows)) same ∙ sym (take_row-absent c.args.columns.now c.args.key.now _ (found_none c.args.columns.now _ _ c.args.key.now none))

pub returns-in-None-clause-room : goal.returns-in-None-clause-room
returns-in-None-clause-room c = rw c.take.ensures.most refl

pub returns-in-None-clause-stored : goal.returns-in-None-clause-stored
returns-in-None-clause-stored c =
    let none = rw c.rows.ensures at (sym c.take.ensures.taken ∙ c.in-None.is) in
    let taken = rw c.rows.ensures at c.take.ensures.items in
    stored_same _ _ _ _ (taken ∙ take_absent _ _ none) c.take.ensures.most c.requires.stored

pub returns-in-Some-clause-fewer : goal.returns-in-Some-clause-fewer
returns-in-Some-clause-fewer c =
    let found = rw c.rows.ensures at (sym c.take.ensures.taken ∙ c.in-Some.is) in
    let taken = rw c.rows.ensures at c.take.ensures.items in
    let less = length-take_found (at_key (key_at c.args.columns.now c.args.self.now.slots.rows) key_cmp c.args.key.now) c.args.self.now.order.items (ap is_some found) in
    let long = ap length taken in
    omega (arith, less, long)

pub returns-in-None-clause-fewer : goal.returns-in-None-clause-fewer
returns-in-None-clause-fewer c =
    let none = rw c.rows.ensures at (sym c.take.ensures.taken ∙ c.in-None.is) in
    let taken = rw c.rows.ensures at c.take.ensures.items in
    let absent = take_absent (at_key (key_at c.args.columns.now c.args.self.now.slots.rows) key_cmp c.args.key.now) c.args.self.now.order.items none in
    let same = ap length taken in
    let long = ap length absent in
    omega (arith, long, same)
