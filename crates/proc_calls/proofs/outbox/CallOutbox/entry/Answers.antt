use Rattle.site_outbox.proofs.OutboxSteps.{number_from_one}
use Rattle.proc_calls.proofs.outbox.CallOutbox.entry.Goals as goal

pub returns-clause-number : goal.returns-clause-number
returns-clause-number c = number_from_one _ c.args.to.now c.self.inside.queue.deferred c.args.position c.entry.result c.entry.ensures.sent
