use Rattle.std.proofs.Common.{◌+◌, ◌-◌, ◌^◌, sym, ◌∙◌, arith}
use Rattle.rep_lists.specs.Rising.{put_at}
use Rattle.error_queue.specs.ErrorLists.{error_beside}
use Rattle.error_queue.specs.ErrorQueueState.{rooms_of}
use Rattle.error_queue.proofs.FirstLists.{list_of-place, list_of-none, place_within, place_own, at_origin-place}
use Rattle.error_queue.proofs.Counts.{length-in_order-put}
use Rattle.error_queue.proofs.Room.{least-first, least-place_used, room_in_place}
use Rattle.error_queue.proofs.errors.Errors.add.Goals as goal

-- the origin has a list
pub unreachable-requires : goal.unreachable-requires
unreachable-requires c =
    (rw (← c.self.view_is) at c.requires.origin) (list_of-none c.args.error.origin c.self.inside.lists.items (rw c.deref.ensures.value at (sym c.place_of.ensures ∙ c.in_default.is)))

pub add-requires-clause-own : goal.add-requires-clause-own
add-requires-clause-own c =
    let found = rw c.deref.ensures.value at c.in-Some.ensures in
    place_own c.args.error.origin c.self.inside.lists.items c.in-Some.place c.index_mut-list.result.now found c.index_mut-list.ensures.value

pub add-requires-clause-absent : goal.add-requires-clause-absent
add-requires-clause-absent c =
    let found = rw c.deref.ensures.value at c.in-Some.ensures in
    rw (← c.self.view_is, list_of-place _ _ _ _ found c.index_mut-list.ensures.value) at c.requires.absent

pub add-requires-clause-room : goal.add-requires-clause-room
add-requires-clause-room c =
    let found = rw c.deref.ensures.value at c.in-Some.ensures in
    let hs = c.self.inside.lists.items in
    let h = c.index_mut-list.result.now in
    let room = rw (← c.self.view_is) at c.requires.room in
    room_in_place (2 ^ 64 - 1 - c.self.inside.count) hs c.in-Some.place h (place_within c.args.error.origin hs c.in-Some.place h found) c.index_mut-list.ensures.value room

-- a number is left
pub overflow_add-self : goal.overflow_add-self
overflow_add-self c =
    let room = rw (← c.self.view_is) at c.requires.room in
    omega (arith, room, least-first (2 ^ 64 - 1 - c.self.inside.count) (rooms_of c.self.inside.lists.items))

pub invariant_of-self : goal.invariant_of-self
invariant_of-self c =
    let found = rw c.deref.ensures.value at c.in-Some.ensures in
    let hs = c.self.inside.lists.items in
    let old = c.index_mut-list.result.now in
    let absent = rw (← c.self.view_is, list_of-place _ _ _ _ found c.index_mut-list.ensures.value) at c.requires.absent in
    let within = place_within c.args.error.origin hs c.in-Some.place old found in
    omega (arith, c.self.invariant, length-in_order-put (error_beside c.args.error.position) hs c.in-Some.place old c.add.new.self within c.index_mut-list.ensures.value c.args.error absent c.add.ensures.entries)

pub returns-clause-lists : goal.returns-clause-lists
returns-clause-lists c =
    let found = rw c.deref.ensures.value at c.in-Some.ensures in
    rw (← c.self.view_is)
    (at_origin-place c.args.error.origin (put_at (error_beside c.args.error.position) c.args.error) c.self.inside.lists.items c.in-Some.place c.index_mut-list.result.now c.add.new.self found c.index_mut-list.ensures.value
    c.add.ensures.origin c.add.ensures.entries)

pub returns-clause-spare : goal.returns-clause-spare
returns-clause-spare c =
    let count = c.self.inside.count in
    rw (← c.self.view_is)
    (least-place_used (2 ^ 64 - 1 - count) (2 ^ 64 - 1 - (count + 1)) c.self.inside.lists.items c.in-Some.place c.index_mut-list.result.now c.add.new.self (omega arith) c.index_mut-list.ensures.value c.add.ensures.room)
