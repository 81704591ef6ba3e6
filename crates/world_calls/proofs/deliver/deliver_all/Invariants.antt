-- Taking in packet by packet.
use Rattle.std.proofs.Common.{◌≡◌, length}
use Rattle.net_plan.specs.Directions.{on_way_between}
use Rattle.world_state.specs.CallPushes.{calls_deliver}
use Rattle.world_calls.specs.Travelling.{CallsTravel}
use Rattle.world_calls.proofs.deliver.deliver_all.Given as goal

-- to take in the others leads to what taking in all led to
abbrev pub invariant-packets : goal.invariant-packets
invariant-packets l = record {
  left : calls_deliver l.from l.to l.procs ≡ calls_deliver l.from l.to l.initial.procs;
  travels : CallsTravel l.from l.to l.initial.procs l.procs;
}

-- each that is taken in is no longer on the way
abbrev pub decreases-packets : goal.decreases-packets
decreases-packets l = length (on_way_between l.from l.to l.procs.net)
