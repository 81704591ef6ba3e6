use denote.Exit.{no}
use denote.Param.Send.{param_send, arg_send}
use Rattle.parallel_apply.proofs.Crossing.{crew_send}
use Rattle.parallel_apply.proofs.seat.Seat.take.Goals as goal

pub is_free-requires-send-T : goal.is_free-requires-send-T
is_free-requires-send-T g c κs within = param_send 0 _ (arg_send _ no _ (crew_send _ g.R.RowStore c.type_bounds.send-R))
