use Rattle.std.proofs.Common.{take}
use Rattle.site_state.specs.State.{arrivals}
use Rattle.parallel_apply.proofs.SortedPass.{can_pass_begun}
use Rattle.parallel_apply.proofs.CrewPass.{none_applied, more_applied}
use Rattle.parallel_apply.proofs.workers.Workers.pass.Goals as goal

pub apply_together-site-requires-clause-passes : goal.apply_together-site-requires-clause-passes
apply_together-site-requires-clause-passes g c κs within = rw c.begin_pass.ensures (can_pass_begun _ _ c.can_pass_in_any_order.ensures)

pub returns-in-Err-clause-err : goal.returns-in-Err-clause-err
returns-in-Err-clause-err g c =
    more_applied _ _ _ _ (take c.in-Err.ensures.err.0 (arrivals c.args.origin.now c.args.site)) (none_applied _ _) c.in-Err.ensures.err.1
