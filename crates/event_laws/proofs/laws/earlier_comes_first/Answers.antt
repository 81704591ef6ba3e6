-- The laws of the order.
use Rattle.event_laws.proofs.OrderLaws.{are_finished_once, are_cleared_once, earlier_comes_first}
use Rattle.event_laws.proofs.laws.earlier_comes_first.Goals as goal

pub returns-clause-once : goal.returns-clause-once
returns-clause-once c = are_finished_once

pub returns-clause-cleared : goal.returns-clause-cleared
returns-clause-cleared c = are_cleared_once

pub returns-clause-order : goal.returns-clause-order
returns-clause-order c = earlier_comes_first
