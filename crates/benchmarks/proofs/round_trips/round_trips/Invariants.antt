-- A packet that comes back.
use Rattle.std.specs.Prelude.{◌≡◌}
use Rattle.benchmarks.proofs.round_trips.round_trips.Given as goal

-- it is the packet that went in
abbrev pub invariant-loop : goal.invariant-loop
invariant-loop l = l.packet ≡ l.fn.packet
