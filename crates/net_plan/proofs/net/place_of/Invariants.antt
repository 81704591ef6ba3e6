-- No direction before the place is between the sites.
use Rattle.std.proofs.Common.{◌≡◌, ◌+◌, drop}
use Rattle.net_plan.specs.Directions.{direction_of, place_between}
use Rattle.net_plan.proofs.net.place_of.Given as goal

abbrev pub invariant-loop-place : goal.invariant-loop-place
invariant-loop-place l = record {
  place : place_between l.from l.to l.directions ≡ l.place + place_between l.from l.to (drop l.place l.directions);
  direction : direction_of l.from l.to l.directions ≡ direction_of l.from l.to (drop l.place l.directions);
}
