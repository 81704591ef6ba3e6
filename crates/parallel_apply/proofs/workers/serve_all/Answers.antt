use denote.Exit.{no}
use denote.Param.Send.{param_sync, arg_sync, shr_sync}
use Rattle.parallel_apply.proofs.Crossing.{workers_sync, heap_sync, four_sync}
use Rattle.parallel_apply.proofs.workers.serve_all.Goals as goal

pub map_indices-requires-sync-F : goal.map_indices-requires-sync-F
map_indices-requires-sync-F g c κs within =
    let seats = workers_sync _ g.R.RowStore c.type_bounds.send-R in
    param_sync 3 _ (arg_sync _ no _ (four_sync _ _ _ _ _ (shr_sync _ _ _ c.type_bounds.sync-X) (shr_sync _ _ _ heap_sync) (shr_sync _ _ _ seats) (shr_sync _ _ _ c.type_bounds.sync-W)))
