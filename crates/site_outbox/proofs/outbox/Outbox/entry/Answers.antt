use Rattle.site_outbox.proofs.OutboxSteps.{number_from_one, number_queued}
use Rattle.site_outbox.proofs.outbox.Outbox.entry.Goals as goal

pub returns-clause-number : goal.returns-clause-number
returns-clause-number c = number_from_one _ c.args.to.now c.self.inside.queue.deferred c.args.position c.entry.result c.entry.ensures.sent

pub returns-clause-queued : goal.returns-clause-queued
returns-clause-queued c = rw (← c.self.view_is) (number_queued _ c.args.to.now c.self.inside.queue.deferred c.args.position c.entry.result c.entry.ensures.sent)
