-- The laws of the order.
use Rattle.proc_state.proofs.Ordering.{are_finished_once, earlier_comes_first}
use Rattle.proc_state.proofs.laws.earlier_comes_first.Goals as goal

pub returns-clause-once : goal.returns-clause-once
returns-clause-once c = are_finished_once

pub returns-clause-order : goal.returns-clause-order
returns-clause-order c = earlier_comes_first
