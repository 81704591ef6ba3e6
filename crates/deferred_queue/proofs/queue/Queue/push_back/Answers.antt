use Rattle.std.proofs.Common.{◌≡◌, ◌+◌, ◌-◌, ◌^◌, ◌≤◌, min, [], ◌∷◌, ◌++◌, length, reverse, map, take, drop, refl, sym, ap, ◌∙◌, arith}
use Rattle.std.specs.Prelude.{vec_len, vec_capacity}
use Rattle.std.specs.List.{AllByRecursion}
use Rattle.std.proofs.lemmas.List.{length-map, reverse-append}
use Rattle.rep_lists.proofs.Each.{each_then}
use Rattle.deferred_queue.specs.declared.queued_txn.QueuedTxn.{QueuedTxn}
use Rattle.deferred_queue.specs.declared.destination.Destination.{Destination}
use Rattle.deferred_queue.specs.QueueState.{kept_of, rooms_of, queued_txns_to, entries_to, extended, held_extended}
use Rattle.rep_lists.proofs.InPlace.{written_back}
use Rattle.deferred_queue.proofs.QueueStreams.{length-queued}
use Rattle.deferred_queue.proofs.QueuedTxns.{length-queued_txns_to, queued_txns_to-pushed, stream_to-kept}
use Rattle.deferred_queue.proofs.Numbers.{FallsFrom-higher}
use Rattle.deferred_queue.proofs.Room.{least-first, least-one, least-held_extended}
use Rattle.deferred_queue.proofs.Extending.{kept_of-held_extended, marks_of-extended, queued-pushed, AreStreams-extended, each_falls}
use Rattle.deferred_queue.proofs.Sweeping.{IsSwept-extended}
use Rattle.deferred_queue.proofs.queue.Queue.push_back.Goals as goal

-- a number is left
pub overflow_add-number : goal.overflow_add-number
overflow_add-number c =
    let cargoes = c.self.inside.cargoes in
    let room = rw (← c.self.view_is) at c.requires.room in
    omega (arith, room, least-first (min (vec_capacity cargoes - vec_len cargoes) (2 ^ 64 - 1 - c.self.inside.count)) (rooms_of c.self.inside.streams.items))

pub push_reserved-requires : goal.push_reserved-requires
push_reserved-requires c =
    let cargoes = c.self.inside.cargoes in
    let room = rw (← c.self.view_is) at c.requires.room in
    omega (arith, room, least-first (min (vec_capacity cargoes - vec_len cargoes) (2 ^ 64 - 1 - c.self.inside.count)) (rooms_of c.self.inside.streams.items))

pub extend_each-requires-clause-room : goal.extend_each-requires-clause-room
extend_each-requires-clause-room c =
    let cargoes = c.self.inside.cargoes in
    let room = rw (← c.self.view_is) at c.requires.room in
    rw c.deref_mut.ensures.value (least-one (min (vec_capacity cargoes - vec_len cargoes) (2 ^ 64 - 1 - c.self.inside.count)) (rooms_of c.self.inside.streams.items) room)

pub extend_each-requires-clause-later : goal.extend_each-requires-clause-later
extend_each-requires-clause-later c = rw c.deref_mut.ensures.value (each_falls c.self.inside.count (c.self.inside.count + 1) c.self.inside.streams.items refl c.self.invariant.streams_are.each)

-- what is queued
abbrev cargo : goal.After-self-2-1 → QueuedTxn
cargo c = record { txn = c.args.txn; past = c.args.past }

newest_first : (c : goal.After-self-2-1) → reverse c.push_reserved.new.self.items ≡ record { number = c.self.inside.count + 1; value = cargo c } ∷ reverse c.self.inside.cargoes.items
newest_first c = ap reverse (rw c.of-value.ensures at c.push_reserved.ensures.items) ∙ reverse-append c.self.inside.cargoes.items (record { number = c.self.inside.count + 1; value = cargo c } ∷ [])

-- the streams of the queue are the extended ones
all : (c : goal.After-self-2-1) → take c.self.inside.streams.len (c.extend_each.new.streams ++ drop (length c.extend_each.new.streams) c.self.inside.streams.items)
    ≡ map (held_extended c.args.to.now (c.self.inside.count + 1)) c.self.inside.streams.items
all c =
    let items = c.self.inside.streams.items in
    let is = rw c.deref_mut.ensures.value at c.extend_each.ensures in
    rw is (written_back (map (held_extended c.args.to.now (c.self.inside.count + 1)) items) _ c.self.inside.streams.len (length-map items (held_extended c.args.to.now (c.self.inside.count + 1)) ∙ sym c.self.inside.streams.ok.0))

kept : (c : goal.After-self-2-1) → kept_of (take c.self.inside.streams.len (c.extend_each.new.streams ++ drop (length c.extend_each.new.streams) c.self.inside.streams.items))
    ≡ map (extended c.args.to.now (c.self.inside.count + 1)) (kept_of c.self.inside.streams.items)
kept c = ap kept_of (all c) ∙ kept_of-held_extended c.args.to.now (c.self.inside.count + 1) c.self.inside.streams.items

-- each destination depends on a position that its stream has
back : (c : goal.After-self-2-1) → AllByRecursion (λ (d : Destination). d.dep ≤ length (entries_to d.site (kept_of c.self.inside.streams.items))) c.args.to.now
back c =
    let streams = kept_of c.self.inside.streams.items in
    let asked = rw (← c.self.view_is) at c.requires.destinations in
    each_then _ _ (λ d is. rw (stream_to-kept d.site c.self.inside.count streams (reverse c.self.inside.cargoes.items) c.self.invariant.streams_are).same_length at is.earlier) c.args.to.now asked

pub invariant_of-self : goal.invariant_of-self
invariant_of-self c = record {
  streams_are = rw (kept c) (AreStreams-extended c.args.to.now c.self.inside.count (c.self.inside.count + 1) (kept_of c.self.inside.streams.items) refl (back c) c.self.invariant.streams_are);
  falling = rw (newest_first c) (omega arith, omega arith, FallsFrom-higher c.self.inside.count (c.self.inside.count + 1 - 1) (reverse c.self.inside.cargoes.items) (omega arith) c.self.invariant.falling);
  swept = rw (all c, newest_first c) (IsSwept-extended c.args.to.now c.self.inside.count c.self.inside.swept c.self.inside.streams.items (cargo c) (reverse c.self.inside.cargoes.items) c.self.invariant.swept);
}

pub returns-clause-number : goal.returns-clause-number
returns-clause-number c =
    rw (← c.self.view_is, length-queued (kept_of c.self.inside.streams.items) (queued_txns_to c.self.inside.count (reverse c.self.inside.cargoes.items)), length-queued_txns_to c.self.inside.count (reverse c.self.inside.cargoes.items)) refl

pub returns-clause-deferred : goal.returns-clause-deferred
returns-clause-deferred c =
    let streams = kept_of c.self.inside.streams.items in
    let cargoes = reverse c.self.inside.cargoes.items in
    rw (kept c, newest_first c, ← c.self.view_is, queued_txns_to-pushed c.self.inside.count (cargo c) cargoes)
    (queued-pushed c.args.to.now c.self.inside.count (c.self.inside.count + 1) streams (cargo c) (queued_txns_to c.self.inside.count cargoes) (length-queued_txns_to c.self.inside.count cargoes) refl c.self.invariant.streams_are.each)

pub returns-clause-marks : goal.returns-clause-marks
returns-clause-marks c = rw (kept c, ← c.self.view_is) (marks_of-extended c.args.to.now (c.self.inside.count + 1) (kept_of c.self.inside.streams.items))

pub returns-clause-spare : goal.returns-clause-spare
returns-clause-spare c =
    let old = c.self.inside.cargoes in
    let new = c.push_reserved.new.self in
    let count = c.self.inside.count in
    let one_less : min (vec_capacity old - vec_len old) (2 ^ 64 - 1 - count) ≤ min (vec_capacity new - vec_len new) (2 ^ 64 - 1 - (count + 1)) + 1 = omega (arith, c.push_reserved.ensures.len, c.push_reserved.ensures.capacity) in
    rw (← c.self.view_is, all c)
    (least-held_extended c.args.to.now (count + 1) (min (vec_capacity old - vec_len old) (2 ^ 64 - 1 - count)) (min (vec_capacity new - vec_len new) (2 ^ 64 - 1 - (count + 1))) c.self.inside.streams.items one_less)
