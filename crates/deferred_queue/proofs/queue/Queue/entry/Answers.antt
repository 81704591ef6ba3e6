use Rattle.std.proofs.Common.{◌≡◌, Some, None, reverse, sym, ap}
use Rattle.std.specs.Option.{option_map}
use Rattle.deferred_queue.specs.declared.queued_txn.QueuedTxn.{QueuedTxn}
use Rattle.deferred_queue.specs.declared.entries.Entry.{Entry}
use Rattle.deferred_queue.specs.Streams.{unpurged}
use Rattle.deferred_queue.specs.QueueState.{kept_of, queued_txn_of}
use Rattle.deferred_queue.proofs.QueueStreams.{earlier_at}
use Rattle.deferred_queue.proofs.QueuedTxns.{nothing_at, something_at}
use Rattle.deferred_queue.proofs.queue.Queue.entry.Goals as goal

pub entry_with-requires : goal.entry_with-requires
entry_with-requires c = rw c.deref-2.ensures.value (c.self.inside.count, c.self.invariant.falling)

pub returns-in_err-entry-clause-sent : goal.returns-in_err-entry-clause-sent
returns-in_err-entry-clause-sent c =
    let none = rw c.deref.ensures.value at c.in_err-entry.ensures in
    let absent = nothing_at c.args.to.now c.self.inside.count c.args.position (kept_of c.self.inside.streams.items) (reverse c.self.inside.cargoes.items) c.self.invariant.streams_are (sym none) in
    rw (c.from_residual.ensures, ← c.self.view_is) (sym (ap unpurged absent))

pub returns-in_err-kept-clause-sent : goal.returns-in_err-kept-clause-sent
returns-in_err-kept-clause-sent c =
    let kept = reverse c.self.inside.cargoes.items in
    let entry = c.in_ok-entry.entry.now in
    let found = rw c.deref.ensures.value at c.in_ok-entry.ensures in
    let gone : queued_txn_of entry.number kept ≡ None = ap (option_map (λ (e : Entry QueuedTxn). e.value)) (sym (rw c.deref-2.ensures.value at c.in_err-kept.ensures)) in
    let there = something_at c.args.to.now c.self.inside.count c.args.position (kept_of c.self.inside.streams.items) kept entry c.self.invariant.streams_are (sym found) in
    rw (c.from_residual-in_err-kept.ensures, ← c.self.view_is) (sym (ap unpurged (rw gone at there)))

pub returns-clause-sent : goal.returns-clause-sent
returns-clause-sent c =
    let kept = reverse c.self.inside.cargoes.items in
    let entry = c.in_ok-entry.entry.now in
    let found = rw c.deref.ensures.value at c.in_ok-entry.ensures in
    let held : queued_txn_of entry.number kept ≡ Some c.in_ok-kept.kept.now.value = ap (option_map (λ (e : Entry QueuedTxn). e.value)) (sym (rw c.deref-2.ensures.value at c.in_ok-kept.ensures)) in
    let there = something_at c.args.to.now c.self.inside.count c.args.position (kept_of c.self.inside.streams.items) kept entry c.self.invariant.streams_are (sym found) in
    rw (c.past.ensures, c.txn.ensures, ← c.self.view_is) (sym (ap unpurged (rw held at there)))

-- each entry depends on an earlier position
pub returns-clause-earlier : goal.returns-clause-earlier
returns-clause-earlier c =
    let found = rw c.deref.ensures.value at c.in_ok-entry.ensures in
    earlier_at c.args.to.now c.self.inside.count c.args.position (kept_of c.self.inside.streams.items) c.in_ok-entry.entry.now c.self.invariant.streams_are.each (sym found)
