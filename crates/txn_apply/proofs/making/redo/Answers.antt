-- The changes are of the store's tables.
use Rattle.txn_apply.proofs.Room.{each_in_schema}
use Rattle.txn_apply.proofs.making.redo.Goals as goal

pub make_room-requires-after_bounds : goal.make_room-requires-after_bounds
make_room-requires-after_bounds g c κs within = each_in_schema _ _ _ _ c.requires
