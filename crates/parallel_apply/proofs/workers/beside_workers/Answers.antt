use denote.Exit.{no}
use denote.Param.Send.{param_send, arg_send, shr_send}
use Rattle.parallel_apply.proofs.Crossing.{workers_sync, heap_sync, four_send}
use Rattle.parallel_apply.proofs.workers.beside_workers.Goals as goal

pub join_mut-result-requires-send-F : goal.join_mut-result-requires-send-F
join_mut-result-requires-send-F g c κs within =
    let seats = workers_sync _ g.R.RowStore c.type_bounds.send-R in
    param_send 1 _ (arg_send _ no _ (four_send _ _ _ _ _ (shr_send _ _ _ c.type_bounds.sync-X) (shr_send _ _ _ heap_sync) (shr_send _ _ _ seats) (shr_send _ _ _ c.type_bounds.sync-W)))
