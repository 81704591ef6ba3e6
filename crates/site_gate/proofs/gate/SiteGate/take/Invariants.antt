use Rattle.std.proofs.Common.{◌≡◌}
use Rattle.site_gate.specs.Views.{IsSameSeat}
use Rattle.site_gate.proofs.gate.SiteGate.take.Given as goal

abbrev pub invariant-loop : goal.invariant-loop
invariant-loop g l = record { seat : IsSameSeat l.initial.seat l.seat; view : l.seat.me.0 ≡ l.initial.seat.me.0; held : l.seat.me.1 ≡ l.initial.seat.me.1 }
