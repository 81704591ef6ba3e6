use Rattle.std.proofs.Common.{◌≡◌, ◌-◌, ◌^◌, ◌≤◌, ◌++◌, min, length, reverse, map, take, drop, refl, sym, ap, ◌∙◌, arith}
use Rattle.std.specs.Prelude.{vec_len, vec_capacity}
use Rattle.std.specs.List.{filter}
use Rattle.std.proofs.lemmas.List.{length-map, length-reverse}
use Rattle.rep_lists.proofs.InPlace.{written_back}
use Rattle.deferred_queue.specs.QueueState.{FallsFrom, kept_of, rooms_of, held_swept, is_unpassed}
use Rattle.deferred_queue.proofs.Numbers.{FallsFrom-filter}
use Rattle.deferred_queue.proofs.QueuedTxns.{as_numbered, numbered-queued}
use Rattle.deferred_queue.proofs.Purging.{queued-purged}
use Rattle.deferred_queue.proofs.Room.{least-more}
use Rattle.deferred_queue.proofs.Sweeping.{kept_of-held_swept, rooms_of-held_swept, swept_of-held_swept, kept_in_span, IsSwept-filtered}
use Rattle.deferred_queue.proofs.queue.Queue.purge.Goals as goal

pub let_go-requires : goal.let_go-requires
let_go-requires c =
    let covers = rw c.deref.ensures.value at c.passed_since-span.ensures in
    rw c.deref-2.ensures.value (kept_in_span c.self.inside.count c.self.inside.swept c.self.inside.count c.self.inside.streams.items (reverse c.self.inside.cargoes.items) c.passed_since-span.result (omega arith) c.self.invariant.falling c.self.invariant.swept covers)

-- what isn't acknowledged by all stays
stays : (c : goal.After-len) → reverse c.let_go.new.cargoes.items ≡ filter (λ e. is_unpassed (kept_of c.self.inside.streams.items) e.number) (reverse c.self.inside.cargoes.items)
stays c = rw c.deref-2.ensures.value at c.let_go.ensures.items

-- the streams of the queue are the swept ones
all : (c : goal.After-len) → take c.self.inside.streams.len (c.sweep_each.new.streams ++ drop (length c.sweep_each.new.streams) c.self.inside.streams.items) ≡ map held_swept c.self.inside.streams.items
all c =
    let items = c.self.inside.streams.items in
    let is = rw c.deref_mut.ensures.value at c.sweep_each.ensures in
    rw is (written_back (map held_swept items) _ c.self.inside.streams.len (length-map items held_swept ∙ sym c.self.inside.streams.ok.0))

-- which hold what they held
kept : (c : goal.After-len) → kept_of (take c.self.inside.streams.len (c.sweep_each.new.streams ++ drop (length c.sweep_each.new.streams) c.self.inside.streams.items)) ≡ kept_of c.self.inside.streams.items
kept c = ap kept_of (all c) ∙ kept_of-held_swept c.self.inside.streams.items

falls : (c : goal.After-len) → FallsFrom c.self.inside.count (reverse c.let_go.new.cargoes.items)
falls c = rw (stays c) (FallsFrom-filter (λ e. is_unpassed (kept_of c.self.inside.streams.items) e.number) c.self.inside.count (reverse c.self.inside.cargoes.items) c.self.invariant.falling)

pub invariant_of-self : goal.invariant_of-self
invariant_of-self c = record {
  streams_are = rw (kept c) c.self.invariant.streams_are;
  falling = falls c;
  swept = rw (all c, swept_of-held_swept c.self.inside.streams.items, stays c) (IsSwept-filtered c.self.inside.count (kept_of c.self.inside.streams.items) (reverse c.self.inside.cargoes.items));
}

pub returns-clause-deferred : goal.returns-clause-deferred
returns-clause-deferred c =
    rw (kept c, stays c, ← c.self.view_is) (queued-purged c.self.inside.count c.self.inside.count (kept_of c.self.inside.streams.items) (reverse c.self.inside.cargoes.items) c.self.invariant.streams_are)

pub returns-clause-count : goal.returns-clause-count
returns-clause-count c =
    let streams = kept_of c.self.inside.streams.items in
    let count = c.self.inside.count in
    let old = c.self.inside.cargoes.items in
    let new = c.let_go.new.cargoes.items in
    rw (kept c, ← c.self.view_is, numbered-queued streams count (reverse new) (falls c), numbered-queued streams count (reverse old) c.self.invariant.falling)
    (omega (arith, length-map (reverse new) as_numbered, length-map (reverse old) as_numbered, length-reverse new, length-reverse old, c.len-before.ensures, c.len.ensures, c.let_go.ensures.bound, c.let_go.new.cargoes.ok.0, c.self.inside.cargoes.ok.0))

pub returns-clause-marks : goal.returns-clause-marks
returns-clause-marks c = rw (kept c, ← c.self.view_is) refl

pub returns-clause-spare : goal.returns-clause-spare
returns-clause-spare c =
    let old = c.self.inside.cargoes in
    let new = c.let_go.new.cargoes in
    let count = c.self.inside.count in
    let more : min (vec_capacity old - vec_len old) (2 ^ 64 - 1 - count) ≤ min (vec_capacity new - vec_len new) (2 ^ 64 - 1 - count) = omega (arith, c.let_go.ensures.bound, c.let_go.ensures.capacity) in
    rw (all c, rooms_of-held_swept c.self.inside.streams.items, ← c.self.view_is) (least-more (min (vec_capacity old - vec_len old) (2 ^ 64 - 1 - count)) (min (vec_capacity new - vec_len new) (2 ^ 64 - 1 - count)) (rooms_of c.self.inside.streams.items) more)
