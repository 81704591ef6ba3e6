-- The law of the order in which ready positions are applied.
use Rattle.event_laws.proofs.Confluence.{one_site_comes_of_any_order, passes_take_such_an_order, every_site_can_pass_in_any_order}
use Rattle.event_laws.proofs.laws.ready_positions_in_any_order.Goals as goal

pub returns-clause-one : goal.returns-clause-one
returns-clause-one c = one_site_comes_of_any_order

pub returns-clause-passes : goal.returns-clause-passes
returns-clause-passes c = passes_take_such_an_order

pub returns-clause-everywhere : goal.returns-clause-everywhere
returns-clause-everywhere c = every_site_can_pass_in_any_order
