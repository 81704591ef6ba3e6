-- The laws of the order of turns.
use Rattle.live_laws.proofs.RunCounts.{positions_are_applied_once}
use Rattle.live_laws.proofs.Order.{earlier_is_applied_first}
use Rattle.live_laws.proofs.laws.positions_are_applied_in_order.Goals as goal

pub returns-clause-once : goal.returns-clause-once
returns-clause-once c = positions_are_applied_once

pub returns-clause-order : goal.returns-clause-order
returns-clause-order c = earlier_is_applied_first
