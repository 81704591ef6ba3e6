use Rattle.std.proofs.Common.{◌∙◌}
use Rattle.dependency_index.proofs.LodgedStreams.{columns_of-same, capacity-set, capacity-taken}
use Rattle.dependency_index.proofs.streams.reserve_each.Goals as goal

pub returns-in_err-reserve-clause-columns : goal.returns-in_err-reserve-clause-columns
returns-in_err-reserve-clause-columns c = columns_of-same c.loop-stream.streams c.loop-stream.stream-index c.reserve.new.self c.stream-item.result c.reserve.ensures.column ∙ c.loop-stream.invariant.columns

pub returns-in_err-reserve-clause-capacity : goal.returns-in_err-reserve-clause-capacity
returns-in_err-reserve-clause-capacity c = λ least each.
    capacity-set least c.loop-stream.streams c.loop-stream.stream-index c.reserve.new.self c.stream-item.result c.reserve.ensures.capacity (c.loop-stream.invariant.capacity least each)

pub loop-stream-preserved : goal.loop-stream-preserved
loop-stream-preserved c = record {
  made = capacity-taken c.args.places c.loop-stream.streams c.loop-stream.stream-index c.reserve.new.self c.in_ok-reserve.ensures.ok c.loop-stream.invariant.made;
  columns = columns_of-same c.loop-stream.streams c.loop-stream.stream-index c.reserve.new.self c.stream-item.result c.reserve.ensures.column ∙ c.loop-stream.invariant.columns;
  capacity = λ least each. capacity-set least c.loop-stream.streams c.loop-stream.stream-index c.reserve.new.self c.stream-item.result c.reserve.ensures.capacity (c.loop-stream.invariant.capacity least each);
}
