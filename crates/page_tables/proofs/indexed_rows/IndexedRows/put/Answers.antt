use Rattle.std.proofs.Common.{◌≤◌, length, map, None, Some, sym, ap, ◌∙◌, refl, arith}
use Rattle.std.specs.Option.{is_some}
use Rattle.rep_lists.specs.RisingLaws.{at_key}
use Rattle.rep_values.specs.Order.{key_cmp}
use Rattle.rep_schema.specs.Tables.{key_of}
use Rattle.page_tables.proofs.InIndex.{length-put_new}
use Rattle.page_tables.specs.Slots.{row_in}
use Rattle.page_tables.specs.Pages.{Paged}
use Rattle.page_tables.proofs.InRows.{key_at, slots_parted, found_none, found_some, rows_replaced}
use Rattle.page_tables.proofs.PutRows.{on_some, stored_same, can_enter, free_found, can_hold, can_list, rows_new, stored_put, room_listed, columns_listed, row_in_here, row_in_others, taken_there}
use Rattle.page_tables.proofs.indexed_rows.IndexedRows.put.Goals as goal

pub enter-requires-clause-parted : goal.enter-requires-clause-parted
enter-requires-clause-parted c =
    rw (c.rows.ensures, c.values.ensures.value) (slots_parted c.args.columns.now _ _ c.requires.rising _)

pub enter-requires-clause-room : goal.enter-requires-clause-room
enter-requires-clause-room c =
    rw (c.rows.ensures, c.values.ensures.value) (can_enter c.args.columns.now _ _ _ c.requires.stored c.requires.rising c.args.row c.requires.unique c.requires.room)

pub replace-requires-clause-stored : goal.replace-requires-clause-stored
replace-requires-clause-stored c =
    let items = rw c.in-Some.is at c.enter.ensures.items in
    stored_same _ _ _ _ items c.enter.ensures.most c.requires.stored

pub replace-requires-clause-there : goal.replace-requires-clause-there
replace-requires-clause-there c =
    let found = rw (c.rows.ensures, c.values.ensures.value) at (sym c.enter.ensures.found ∙ c.in-Some.is) in
    let items = rw c.in-Some.is at c.enter.ensures.items in
    rw items (taken_there c.args.columns.now _ _ _ c.requires.stored c.requires.rising _ c.in-Some.found found)

pub replace-requires-clause-free : goal.replace-requires-clause-free
replace-requires-clause-free c =
    let found = rw (c.rows.ensures, c.values.ensures.value) at (sym c.enter.ensures.found ∙ c.in-Some.is) in
    let items = rw c.in-Some.is at c.enter.ensures.items in
    rw items (free_found c.args.columns.now _ _ _ c.requires.stored c.requires.rising c.args.row c.requires.unique c.requires.room c.in-Some.found found)

pub returns-in-Some-clause-replaced : goal.returns-in-Some-clause-replaced
returns-in-Some-clause-replaced c =
    let found = rw (c.rows.ensures, c.values.ensures.value) at (sym c.enter.ensures.found ∙ c.in-Some.is) in
    c.replace.ensures.before ∙ sym (found_some c.args.columns.now _ _ c.requires.stored.held _ c.in-Some.found found)

pub returns-in-Some-clause-rows : goal.returns-in-Some-clause-rows
returns-in-Some-clause-rows c =
    let found = rw (c.rows.ensures, c.values.ensures.value) at (sym c.enter.ensures.found ∙ c.in-Some.is) in
    let items = rw c.in-Some.is at c.enter.ensures.items in
    ap (λ (o : Paged). map (row_in c.replace.new.self.slots.rows) o.items) c.replace.ensures.order
    ∙ (ap (map (row_in c.replace.new.self.slots.rows)) items
    ∙ rows_replaced c.args.columns.now _ _ c.requires.rising c.replace.new.self.slots.rows c.in-Some.found c.args.row found (row_in_here _ _ c.in-Some.found c.args.row c.replace.ensures.here) (row_in_others _ _ c.in-Some.found (Some c.args.row) c.replace.ensures.here))

pub returns-in-Some-clause-room : goal.returns-in-Some-clause-room
returns-in-Some-clause-room c =
    c.replace.ensures.room ∙ rw c.enter.ensures.most refl

pub hold-before-requires : goal.hold-before-requires
hold-before-requires c =
    let none = rw (c.rows.ensures, c.values.ensures.value) at (sym c.enter.ensures.found ∙ c.in-None.is) in
    can_hold c.args.columns.now _ _ _ c.requires.stored c.requires.rising c.args.row c.requires.unique c.requires.room none

pub list-requires : goal.list-requires
list-requires c =
    let none = rw (c.rows.ensures, c.values.ensures.value) at (sym c.enter.ensures.found ∙ c.in-None.is) in
    let holds = rw (← c.next-slot.ensures.slot) at c.hold-before.ensures.here in
    rw c.rows-in-None.ensures (can_list c.args.columns.now _ _ _ c.requires.stored c.requires.rising c.args.row c.requires.unique c.requires.room none _ c.next-slot.result c.next-slot.ensures.free holds)

pub returns-in-None-clause-replaced : goal.returns-in-None-clause-replaced
returns-in-None-clause-replaced c =
    let none = rw (c.rows.ensures, c.values.ensures.value) at (sym c.enter.ensures.found ∙ c.in-None.is) in
    c.hold-before.ensures.none ∙ sym (found_none c.args.columns.now _ _ _ none)

pub returns-in-None-clause-rows : goal.returns-in-None-clause-rows
returns-in-None-clause-rows c =
    let none = rw (c.rows.ensures, c.values.ensures.value) at (sym c.enter.ensures.found ∙ c.in-None.is) in
    let holds = rw (← c.next-slot.ensures.slot) at c.hold-before.ensures.here in
    let put = rw (c.in-None.is, c.rows.ensures, c.values.ensures.value) at c.enter.ensures.items in
    rows_new c.args.columns.now _ _ _ c.requires.stored c.requires.rising c.args.row c.requires.unique c.requires.room none _ c.next-slot.result c.next-slot.ensures.free holds c.enter.new.self put

pub returns-in-None-clause-room : goal.returns-in-None-clause-room
returns-in-None-clause-room c =
    let kept = c.args.self.now in
    rw c.list.ensures (room_listed kept.slots c.hold-before.new.self kept.order c.enter.new.self c.rows-in-None.result.now c.next-slot.result None kept.indexes.items c.hold-before.ensures.here.most c.enter.ensures.most)

pub returns-in-None-clause-columns : goal.returns-in-None-clause-columns
returns-in-None-clause-columns c =
    rw c.list.ensures (columns_listed c.rows-in-None.result.now c.next-slot.result None c.args.self.now.indexes.items)

pub returns-in-None-clause-stored : goal.returns-in-None-clause-stored
returns-in-None-clause-stored c =
    let none = rw (c.rows.ensures, c.values.ensures.value) at (sym c.enter.ensures.found ∙ c.in-None.is) in
    let holds = rw (← c.next-slot.ensures.slot) at c.hold-before.ensures.here in
    let put = rw (c.in-None.is, c.rows.ensures, c.values.ensures.value) at c.enter.ensures.items in
    rw (c.list.ensures, c.rows-in-None.ensures) (stored_put c.args.columns.now _ _ _ c.requires.stored c.requires.rising c.args.row c.requires.unique c.requires.room none _ c.next-slot.result c.next-slot.ensures.free holds _ put c.enter.ensures.most c.hold-before.ensures.one)

pub returns-in-Some-clause-one : goal.returns-in-Some-clause-one
returns-in-Some-clause-one c =
    let items = rw c.in-Some.is at c.enter.ensures.items in
    let same = ap (λ (o : Paged). length o.items) c.replace.ensures.order in
    let long = ap length items in
    omega (arith, same, long)

pub returns-in-Some-clause-same : goal.returns-in-Some-clause-same
returns-in-Some-clause-same c =
    let items = rw c.in-Some.is at c.enter.ensures.items in
    let same = ap (λ (o : Paged). length o.items) c.replace.ensures.order in
    let long = ap length items in
    let le : length c.replace.new.self.order.items ≤ length c.args.self.now.order.items = omega (arith, same, long) in
    on_some c.replace.result le

pub returns-in-None-clause-one : goal.returns-in-None-clause-one
returns-in-None-clause-one c =
    let none = rw (c.rows.ensures, c.values.ensures.value) at (sym c.enter.ensures.found ∙ c.in-None.is) in
    let put = rw (c.in-None.is, c.rows.ensures, c.values.ensures.value) at c.enter.ensures.items in
    let kept = c.args.self.now in
    let longer = length-put_new (at_key (key_at c.args.columns.now kept.slots.rows) key_cmp (key_of c.args.columns.now c.args.row)) c.next-slot.result kept.order.items (ap is_some none) in
    let long = ap length put in
    omega (arith, longer, long)
