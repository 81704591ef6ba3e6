use Rattle.std.proofs.Common.{reverse}
use Rattle.rep_lists.proofs.Each.{each_then}
use Rattle.deferred_queue.specs.QueueState.{kept_of, CanGo}
use Rattle.deferred_queue.proofs.QueuedTxns.{stream_to-kept}
use Rattle.deferred_queue.proofs.queue.Queue.can_send.Goals as goal

pub returns : goal.returns
returns c =
    let streams = kept_of c.self.inside.streams.items in
    let cargoes = reverse c.self.inside.cargoes.items in
    let tested = rw c.deref.ensures.value at c.can_go_to_each.ensures in
    let to = c.args.to.now in
    rw (← c.self.view_is) (
      λ yes. each_then (CanGo streams) _ (λ d goes. record { destination = goes.destination; earlier = rw (stream_to-kept d.site c.self.inside.count streams cargoes c.self.invariant.streams_are).same_length goes.earlier }) to (tested.0 yes),
      λ sent. tested.1 (each_then _ (CanGo streams) (λ d is. record { destination = is.destination; earlier = rw (stream_to-kept d.site c.self.inside.count streams cargoes c.self.invariant.streams_are).same_length at is.earlier }) to sent),
    )
