use Rattle.std.proofs.Common.{◌+◌, reverse, sym, arith}
use Rattle.deferred_queue.proofs.Numbers.{entry_of-found}
use Rattle.deferred_queue.proofs.Places.{place_in-none, place_in-some}
use Rattle.deferred_queue.proofs.stream.Stream.place_of.Goals as goal

pub place_with-requires : goal.place_with-requires
place_with-requires c = rw c.deref.ensures.value c.self.invariant

pub returns-in_err-place : goal.returns-in_err-place
returns-in_err-place c =
    let position = rw c.deref.ensures.value at c.in_err-place.ensures.position in
    rw (c.from_residual.ensures, ← c.self.view_is) (sym (place_in-none c.args.number (reverse c.self.inside.entries.items) (sym position)))

pub overflow_add-result : goal.overflow_add-result
overflow_add-result c = omega (arith, c.in_ok-place.ensures.within, c.deref.ensures.len)

pub index-requires : goal.index-requires
index-requires c = omega (arith, c.in_ok-place.ensures.within, c.deref.ensures.len)

pub returns : goal.returns
returns c =
    let items = c.self.inside.entries.items in
    let position = rw c.deref.ensures.value at c.in_ok-place.ensures.position in
    let within = rw c.deref.ensures.value at c.in_ok-place.ensures.within in
    let found = entry_of-found c.args.number c.in_ok-place.place items c.index.result.now position within c.index.ensures in
    rw (← c.self.view_is) (sym (place_in-some c.args.number (c.in_ok-place.place + 1) (reverse items) c.index.result.now (sym position) found))
