use Rattle.subquery_snapshots.proofs.rows.set_row.Goals as goal

pub set_in_room-requires-clause-rising : goal.set_in_room-requires-clause-rising
set_in_room-requires-clause-rising c = rw c.reserve.ensures.items c.requires.rising

pub returns : goal.returns
returns c = rw c.reserve.ensures.items at c.set_in_room.ensures
