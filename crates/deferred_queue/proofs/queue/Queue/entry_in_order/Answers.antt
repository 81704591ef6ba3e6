use Rattle.std.proofs.Common.{ap}
use Rattle.std.specs.Option.{option_map}
use Rattle.deferred_queue.specs.QueueState.{kept_of}
use Rattle.deferred_queue.proofs.QueuedTxns.{as_numbered, at_position-in_order}
use Rattle.deferred_queue.proofs.queue.Queue.entry_in_order.Goals as goal

pub returns-in_err-entry : goal.returns-in_err-entry
returns-in_err-entry c =
    let found = rw c.deref.ensures.value at c.in_err-entry.ensures in
    rw (c.from_residual.ensures, ← c.self.view_is, at_position-in_order (kept_of c.self.inside.streams.items) c.self.inside.count c.self.inside.cargoes.items c.args.place c.self.invariant.falling)
    (ap (option_map as_numbered) found)

pub returns : goal.returns
returns c =
    let found = rw c.deref.ensures.value at c.in_ok-entry.ensures in
    rw (c.past.ensures, c.txn.ensures, ← c.self.view_is, at_position-in_order (kept_of c.self.inside.streams.items) c.self.inside.count c.self.inside.cargoes.items c.args.place c.self.invariant.falling)
    (ap (option_map as_numbered) found)
