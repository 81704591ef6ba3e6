-- Taking in packet by packet.
use Rattle.std.proofs.Common.{◌≡◌, length}
use Rattle.net_plan.specs.Directions.{on_way_between}
use Rattle.world_state.specs.Pushes.{world_deliver}
use Rattle.world_push.specs.Travelling.{Travels}
use Rattle.world_push.proofs.deliver.deliver_all.Given as goal

-- to take in the others leads to what taking in all led to
abbrev pub invariant-packets : goal.invariant-packets
invariant-packets l = record {
  left : world_deliver l.from l.to l.parts ≡ world_deliver l.from l.to l.initial.parts;
  travels : Travels l.from l.to l.initial.parts l.parts;
}

-- each that is taken in is no longer on the way
abbrev pub decreases-packets : goal.decreases-packets
decreases-packets l = length (on_way_between l.from l.to l.parts.net)
