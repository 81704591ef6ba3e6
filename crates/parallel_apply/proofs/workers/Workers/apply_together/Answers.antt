use denote.Exit.{no}
use denote.Param.Send.{param_send, arg_send}
use Rattle.parallel_apply.proofs.Crossing.{crew_send}
use Rattle.parallel_apply.proofs.CrewPass.{none_applied}
use Rattle.parallel_apply.proofs.workers.Workers.apply_together.Goals as goal

pub returns-in-Err : goal.returns-in-Err
returns-in-Err g c = rw c.in-Err.ensures.err (none_applied _ _)

pub make-requires-2-send-T : goal.make-requires-2-send-T
make-requires-2-send-T g c κs within = param_send 0 _ (arg_send _ no _ (crew_send _ g.R.RowStore c.type_bounds.send-R))

pub close-requires-send-T : goal.close-requires-send-T
close-requires-send-T g c κs within = param_send 0 _ (arg_send _ no _ (crew_send _ g.R.RowStore c.type_bounds.send-R))

pub split-requires-send-T : goal.split-requires-send-T
split-requires-send-T g c κs within = param_send 0 _ (arg_send _ no _ (crew_send _ g.R.RowStore c.type_bounds.send-R))

pub enter-crew-requires-send-T : goal.enter-crew-requires-send-T
enter-crew-requires-send-T g c κs within = param_send 0 _ (arg_send _ no _ (crew_send _ g.R.RowStore c.type_bounds.send-R))
