-- What isn't acknowledged is what the queue says of the only destination.
use Rattle.std.proofs.Common.{ap, ◌∙◌, arith}
use Rattle.std.proofs.lemmas.Bool.Decides.{nat_tests}
use Rattle.deferred_queue.specs.Streams.{last_position, acked_by}
use Rattle.world.proofs.Queued.{nothing_waits, some_wait}
use Rattle.world.proofs.refresh_refusals.queue_step.Goals as goal

pub returns-then-acked-last : goal.returns-then-acked-last
returns-then-acked-last c =
    nothing_waits c.args.site.now c.args.to.now c.requires c.acked.result c.last.result (c.acked.ensures ∙ ap (acked_by c.args.to.now) c.queue-queue.ensures.marks)
    (c.last.ensures ∙ ap (last_position c.args.to.now) c.queue-queue.ensures.deferred) (grind (arith, nat_tests, c.if-acked-last.true))

pub returns-else-acked-last : goal.returns-else-acked-last
returns-else-acked-last c =
    some_wait c.args.site.now c.args.to.now c.requires c.acked.result c.last.result (c.acked.ensures ∙ ap (acked_by c.args.to.now) c.queue-queue.ensures.marks)
    (c.last.ensures ∙ ap (last_position c.args.to.now) c.queue-queue.ensures.deferred) (grind (arith, nat_tests, c.if-acked-last.false)) c.waiting.result (rw (c.last.ensures, c.acked.ensures) c.waiting.ensures)
