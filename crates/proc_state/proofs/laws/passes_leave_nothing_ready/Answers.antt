-- The laws of passes.
use Rattle.proc_state.proofs.Fitting.{every_site_can_pass}
use Rattle.proc_state.proofs.Passing.{passes_leave_nothing_ready}
use Rattle.proc_state.proofs.laws.passes_leave_nothing_ready.Goals as goal

pub returns-clause-passed : goal.returns-clause-passed
returns-clause-passed c = passes_leave_nothing_ready

pub returns-clause-everywhere : goal.returns-clause-everywhere
returns-clause-everywhere c = every_site_can_pass
