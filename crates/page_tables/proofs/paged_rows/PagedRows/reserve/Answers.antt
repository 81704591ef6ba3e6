use Rattle.std.proofs.Common.{arith}
use Rattle.std.proofs.lemmas.List.{length-map}
use Rattle.page_tables.specs.Slots.{row_in}
use Rattle.page_tables.specs.Stored.{room_of}
use Rattle.page_tables.proofs.PutRows.{room_each}
use Rattle.page_tables.proofs.paged_rows.PagedRows.reserve.Goals as goal

-- no table has room for so many rows
pub returns-in-None-clause-succeeds : goal.returns-in-None-clause-succeeds
returns-in-None-clause-succeeds c = λ enough.
    let kept = c.self.inside.kept in
    let spare = rw (← c.self.view_is) at enough in
    let room = (room_each (room_of kept.slots kept.order kept.indexes.items) kept.slots kept.order kept.indexes.items (omega arith)).0 in
    let long = length-map kept.order.items (row_in kept.slots.rows) in
    absurd (omega (arith, spare, room, long, c.self.invariant.few, c.self.invariant.fits, c.len.ensures, c.in-None.ensures))
