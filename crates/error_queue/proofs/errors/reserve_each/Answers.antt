use Rattle.std.proofs.Common.{◌∙◌, arith}
use Rattle.error_queue.proofs.Room.{least-set, least-take_set, lists_of-set}
use Rattle.error_queue.proofs.errors.reserve_each.Goals as goal

pub returns-in_err-reserve-clause-lists : goal.returns-in_err-reserve-clause-lists
returns-in_err-reserve-clause-lists c = lists_of-set c.loop-list.lists c.loop-list.list-index c.reserve.new.self c.list-item.result c.reserve.ensures.list ∙ c.loop-list.invariant.lists

pub returns-in_err-reserve-clause-room : goal.returns-in_err-reserve-clause-room
returns-in_err-reserve-clause-room c = λ free.
    omega (arith, c.loop-list.invariant.room free, least-set free c.loop-list.lists c.loop-list.list-index c.reserve.new.self c.list-item.result c.reserve.ensures.room)

pub loop-list-preserved : goal.loop-list-preserved
loop-list-preserved c = record {
  made = least-take_set c.loop-list.lists c.loop-list.list-index c.reserve.new.self c.in_ok-reserve.ensures.ok c.loop-list.invariant.made;
  lists = lists_of-set c.loop-list.lists c.loop-list.list-index c.reserve.new.self c.list-item.result c.reserve.ensures.list ∙ c.loop-list.invariant.lists;
  room = λ free. omega (arith, c.loop-list.invariant.room free, least-set free c.loop-list.lists c.loop-list.list-index c.reserve.new.self c.list-item.result c.reserve.ensures.room);
}
