use denote.Exit.{no}
use denote.Param.Send.{param_send, arg_send}
use Rattle.live_streams.proofs.Crossing.{shared_send}
use Rattle.live_streams.proofs.threads.commit_in_turns.Goals as goal

pub enter-turn-requires-send-T : goal.enter-turn-requires-send-T
enter-turn-requires-send-T g c κs within = param_send 0 _ (arg_send _ no _ (shared_send _ g.R.RowStore c.type_bounds.send-R))

pub leave-pass-requires-send-T : goal.leave-pass-requires-send-T
leave-pass-requires-send-T g c κs within = param_send 0 _ (arg_send _ no _ (shared_send _ g.R.RowStore c.type_bounds.send-R))
