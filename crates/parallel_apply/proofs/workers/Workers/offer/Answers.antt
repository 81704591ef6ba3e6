use denote.Exit.{no}
use denote.Param.Send.{param_send, arg_send}
use Rattle.parallel_apply.proofs.Crossing.{crew_send}
use Rattle.parallel_apply.proofs.workers.Workers.offer.Goals as goal

pub split-requires-send-T : goal.split-requires-send-T
split-requires-send-T g c κs within = param_send 0 _ (arg_send _ no _ (crew_send _ g.R.RowStore c.type_bounds.send-R))
