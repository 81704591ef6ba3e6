use Rattle.std.proofs.Common.{ap, ◌∙◌}
use Rattle.deferred_queue.specs.QueueState.{acked_found}
use Rattle.deferred_queue.proofs.Found.{acked_found-find}
use Rattle.deferred_queue.proofs.streams.acked_to.Goals as goal

pub returns-in-Some : goal.returns-in-Some
returns-in-Some c = c.acked.ensures ∙ ap acked_found c.in-Some.ensures ∙ acked_found-find c.args.site.now c.args.streams.now

pub returns-in-None : goal.returns-in-None
returns-in-None c = ap acked_found c.in-None.ensures ∙ acked_found-find c.args.site.now c.args.streams.now
