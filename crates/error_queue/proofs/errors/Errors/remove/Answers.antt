use Rattle.std.proofs.Common.{◌-◌, ◌^◌, refl, sym, arith}
use Rattle.std.specs.Prelude.{slice_set}
use Rattle.rep_lists.specs.Rising.{take_at}
use Rattle.error_queue.specs.ErrorLists.{error_beside}
use Rattle.error_queue.specs.ErrorQueueState.{lists_of, rooms_of}
use Rattle.error_queue.proofs.FirstLists.{list_of-place, list_of-none, at_origin-none, place_within, at_origin-place}
use Rattle.error_queue.proofs.Counts.{length-in_order-take, length-in_order-untaken}
use Rattle.error_queue.proofs.Room.{least-place, least-more}
use Rattle.error_queue.proofs.errors.Errors.remove.Goals as goal

pub returns-in_err-place-clause-error : goal.returns-in_err-place-clause-error
returns-in_err-place-clause-error c =
    let none = rw c.deref.ensures.value at c.in_err-place.ensures in
    rw (c.from_residual.ensures, ← c.self.view_is, list_of-none c.args.origin.now c.self.inside.lists.items (sym none)) refl

pub returns-in_err-place-clause-lists : goal.returns-in_err-place-clause-lists
returns-in_err-place-clause-lists c =
    let none = rw c.deref.ensures.value at c.in_err-place.ensures in
    let hs = c.self.inside.lists.items in
    rw (← c.self.view_is) (sym (at_origin-none c.args.origin.now (take_at (error_beside c.args.position)) (lists_of hs) (list_of-none c.args.origin.now hs (sym none))))

-- nothing was taken, so the count is the same
pub invariant_of-self : goal.invariant_of-self
invariant_of-self c =
    let found = rw c.deref.ensures.value at c.in_ok-place.ensures in
    let hs = c.self.inside.lists.items in
    let old = c.index_mut-list.result.now in
    let within = place_within c.args.origin.now hs c.in_ok-place.place old found in
    omega (arith, c.self.invariant, length-in_order-untaken (error_beside c.args.position) hs c.in_ok-place.place old c.take.new.self within c.index_mut-list.ensures.value (sym c.in_err-error.ensures.error) c.take.ensures.entries)

pub returns-in_err-error-clause-error : goal.returns-in_err-error-clause-error
returns-in_err-error-clause-error c =
    let found = rw c.deref.ensures.value at c.in_ok-place.ensures in
    rw (c.from_residual-in_err-error.ensures, ← c.self.view_is, list_of-place _ _ _ _ found c.index_mut-list.ensures.value) c.in_err-error.ensures.error

pub returns-in_err-error-clause-lists : goal.returns-in_err-error-clause-lists
returns-in_err-error-clause-lists c =
    let found = rw c.deref.ensures.value at c.in_ok-place.ensures in
    rw (← c.self.view_is)
    (at_origin-place c.args.origin.now (take_at (error_beside c.args.position)) c.self.inside.lists.items c.in_ok-place.place c.index_mut-list.result.now c.take.new.self found c.index_mut-list.ensures.value c.take.ensures.origin
    c.take.ensures.entries)

pub returns-in_err-error-clause-spare : goal.returns-in_err-error-clause-spare
returns-in_err-error-clause-spare c =
    rw (← c.self.view_is)
    (least-place (2 ^ 64 - 1 - c.self.inside.count) c.self.inside.lists.items c.in_ok-place.place c.index_mut-list.result.now c.take.new.self c.index_mut-list.ensures.value c.take.ensures.room)

-- one was taken, so the count is one less
pub overflow_sub-self : goal.overflow_sub-self
overflow_sub-self c =
    let found = rw c.deref.ensures.value at c.in_ok-place.ensures in
    let hs = c.self.inside.lists.items in
    let old = c.index_mut-list.result.now in
    let within = place_within c.args.origin.now hs c.in_ok-place.place old found in
    omega (arith, c.self.invariant, length-in_order-take (error_beside c.args.position) hs c.in_ok-place.place old c.take.new.self within c.index_mut-list.ensures.value c.in_ok-error.error (sym c.in_ok-error.ensures.error) c.take.ensures.entries)

pub invariant_of-self-2 : goal.invariant_of-self-2
invariant_of-self-2 c =
    let found = rw c.deref.ensures.value at c.in_ok-place.ensures in
    let hs = c.self.inside.lists.items in
    let old = c.index_mut-list.result.now in
    let within = place_within c.args.origin.now hs c.in_ok-place.place old found in
    omega (arith, c.self.invariant, length-in_order-take (error_beside c.args.position) hs c.in_ok-place.place old c.take.new.self within c.index_mut-list.ensures.value c.in_ok-error.error (sym c.in_ok-error.ensures.error) c.take.ensures.entries)

pub returns-clause-error : goal.returns-clause-error
returns-clause-error c =
    let found = rw c.deref.ensures.value at c.in_ok-place.ensures in
    rw (← c.self.view_is, list_of-place _ _ _ _ found c.index_mut-list.ensures.value) c.in_ok-error.ensures.error

pub returns-clause-lists : goal.returns-clause-lists
returns-clause-lists c =
    let found = rw c.deref.ensures.value at c.in_ok-place.ensures in
    rw (← c.self.view_is)
    (at_origin-place c.args.origin.now (take_at (error_beside c.args.position)) c.self.inside.lists.items c.in_ok-place.place c.index_mut-list.result.now c.take.new.self found c.index_mut-list.ensures.value c.take.ensures.origin
    c.take.ensures.entries)

pub returns-clause-spare : goal.returns-clause-spare
returns-clause-spare c =
    let count = c.self.inside.count in
    let hs = c.self.inside.lists.items in
    let now = slice_set hs c.in_ok-place.place c.take.new.self in
    rw (← c.self.view_is)
    (omega (arith, least-place (2 ^ 64 - 1 - count) hs c.in_ok-place.place c.index_mut-list.result.now c.take.new.self c.index_mut-list.ensures.value c.take.ensures.room, least-more (2 ^ 64 - 1 - count) (2 ^ 64 - 1 - (count - 1)) (rooms_of now) (omega arith)))
