use denote.Exit.{no}
use denote.Param.Send.{param_send, arg_send, param_sync, arg_sync, shr_sync}
use Rattle.live_streams.proofs.Crossing.{shared_send, shared_pass_send, job_send, shared_gate_sync, heap_sync, four_sync}
use Rattle.live_streams.proofs.run.made_together.Goals as goal

pub make-requires-send-T : goal.make-requires-send-T
make-requires-send-T g c κs within = param_send 0 _ (arg_send _ no _ (shared_send _ g.R.RowStore c.type_bounds.send-R))

pub map_vec-passes-requires-send-J : goal.map_vec-passes-requires-send-J
map_vec-passes-requires-send-J g c κs within = param_send 1 _ (arg_send _ no _ (job_send _ g.R.RowStore c.type_bounds.send-R))

pub map_vec-passes-requires-send-X : goal.map_vec-passes-requires-send-X
map_vec-passes-requires-send-X g c κs within = param_send 2 _ (arg_send _ no _ (shared_pass_send _ g.R.RowStore c.type_bounds.send-R))

pub map_vec-passes-requires-sync-F : goal.map_vec-passes-requires-sync-F
map_vec-passes-requires-sync-F g c κs within =
    let shared = shared_gate_sync _ g.R.RowStore c.type_bounds.send-R in
    param_sync 4 _ (arg_sync _ no _ (four_sync _ _ _ _ _ (shr_sync _ _ _ c.type_bounds.sync-X) (shr_sync _ _ _ heap_sync) (shr_sync _ _ _ shared) (shr_sync _ _ _ c.type_bounds.sync-W)))

pub close-crew-requires-send-T : goal.close-crew-requires-send-T
close-crew-requires-send-T g c κs within = param_send 0 _ (arg_send _ no _ (shared_send _ g.R.RowStore c.type_bounds.send-R))
