-- The laws of passes.
use Rattle.event_laws.proofs.PassLaws.{low_water_is_that_of_the_finished, passes_leave_nothing_ready}
use Rattle.event_laws.proofs.Passing.{every_site_can_pass}
use Rattle.event_laws.proofs.laws.passes_leave_nothing_ready.Goals as goal

pub returns-clause-low : goal.returns-clause-low
returns-clause-low c = low_water_is_that_of_the_finished

pub returns-clause-passed : goal.returns-clause-passed
returns-clause-passed c = passes_leave_nothing_ready

pub returns-clause-everywhere : goal.returns-clause-everywhere
returns-clause-everywhere c = every_site_can_pass
