use Rattle.net_plan.proofs.Deliveries.{delivered_was_sent}
use Rattle.net_plan.proofs.InOrder.{passes_in_order}
use Rattle.net_plan.proofs.laws.deliveries_were_sent.Goals as goal

pub returns-clause-sent : goal.returns-clause-sent
returns-clause-sent c = delivered_was_sent

pub returns-clause-in_order : goal.returns-clause-in_order
returns-clause-in_order c = passes_in_order
