use Rattle.std.proofs.Common.{◌≡◌, ◌++◌, length, reverse, map, take, drop, sym, ap, ◌∙◌, refl}
use Rattle.std.proofs.lemmas.List.{length-map}
use Rattle.deferred_queue.specs.QueueState.{kept_of, queued_txns_to, stream_raised, held_raised}
use Rattle.rep_lists.proofs.InPlace.{written_back}
use Rattle.deferred_queue.proofs.QueuedTxns.{stream_to-kept}
use Rattle.deferred_queue.proofs.Raising.{kept_of-held_raised, rooms_of-held_raised, queued-raised, marks_of-raised, AreStreams-raised}
use Rattle.deferred_queue.proofs.Sweeping.{swept_of-held_raised}
use Rattle.deferred_queue.proofs.queue.Queue.acknowledge.Goals as goal

-- the streams of the queue are the raised ones
all : (c : goal.After-self-1) → take c.self.inside.streams.len (c.raise_each.new.streams ++ drop (length c.raise_each.new.streams) c.self.inside.streams.items)
    ≡ map (held_raised c.args.to.now c.args.mark) c.self.inside.streams.items
all c =
    let items = c.self.inside.streams.items in
    let is = rw c.deref_mut.ensures.value at c.raise_each.ensures in
    rw is (written_back (map (held_raised c.args.to.now c.args.mark) items) _ c.self.inside.streams.len (length-map items (held_raised c.args.to.now c.args.mark) ∙ sym c.self.inside.streams.ok.0))

kept : (c : goal.After-self-1) → kept_of (take c.self.inside.streams.len (c.raise_each.new.streams ++ drop (length c.raise_each.new.streams) c.self.inside.streams.items))
    ≡ map (stream_raised c.args.to.now c.args.mark) (kept_of c.self.inside.streams.items)
kept c = ap kept_of (all c) ∙ kept_of-held_raised c.args.to.now c.args.mark c.self.inside.streams.items

pub invariant_of-self : goal.invariant_of-self
invariant_of-self c =
    let streams = kept_of c.self.inside.streams.items in
    let cargoes = reverse c.self.inside.cargoes.items in
    let asked = rw (← c.self.view_is) at c.requires in
    let within = rw (stream_to-kept c.args.to.now c.self.inside.count streams cargoes c.self.invariant.streams_are).same_length at asked in
    record { streams_are = rw (kept c) (AreStreams-raised c.args.to.now c.args.mark c.self.inside.count streams within c.self.invariant.streams_are); falling = c.self.invariant.falling; swept = rw (all c, swept_of-held_raised c.args.to.now c.args.mark c.self.inside.streams.items) c.self.invariant.swept }

pub returns-clause-deferred : goal.returns-clause-deferred
returns-clause-deferred c = rw (kept c, ← c.self.view_is) (queued-raised c.args.to.now c.args.mark (kept_of c.self.inside.streams.items) (queued_txns_to c.self.inside.count (reverse c.self.inside.cargoes.items)))

pub returns-clause-marks : goal.returns-clause-marks
returns-clause-marks c = rw (kept c, ← c.self.view_is) (marks_of-raised c.args.to.now c.args.mark (kept_of c.self.inside.streams.items))

pub returns-clause-spare : goal.returns-clause-spare
returns-clause-spare c = rw (all c, rooms_of-held_raised c.args.to.now c.args.mark c.self.inside.streams.items) (rw (← c.self.view_is) refl)
