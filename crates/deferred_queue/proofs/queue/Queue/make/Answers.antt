use Rattle.std.proofs.Common.{arith}
use Rattle.deferred_queue.proofs.Found.{marks_of-new, AreStreams-new}
use Rattle.deferred_queue.proofs.queue.Queue.make.Goals as goal

pub invariant_of-result : goal.invariant_of-result
invariant_of-result c = record { streams_are = rw c.in_ok-streams.ensures (AreStreams-new 0 c.args.destinations.now); falling = rw c.new.ensures.items tt; swept = record { within = omega arith; waiting = rw c.new.ensures.items tt } }

pub returns-clause-marks : goal.returns-clause-marks
returns-clause-marks c = rw c.in_ok-streams.ensures (marks_of-new c.args.destinations.now)
