use Rattle.std.proofs.Common.{◌≡◌, All}
use Rattle.std.specs.Vec.Iter.{into_iter_items}
use Rattle.site_gate.specs.Passes.{IsPassOf, opening_of}
use Rattle.crew_cases.proofs.adding.added.Given as goal

abbrev pub invariant-loop-numbers : goal.invariant-loop-numbers
invariant-loop-numbers g l = record {
  gate : IsPassOf l.gate l.pass;
  opening : opening_of l.pass ≡ opening_of l.initial.pass;
  jobs : All (λ job. IsPassOf l.gate job.pass) l.jobs.items;
}

abbrev pub invariant-loop-other : goal.invariant-loop-other
invariant-loop-other g l = record {
  gate : IsPassOf l.gate l.pass;
  opening : opening_of l.pass ≡ opening_of l.initial.pass;
  others : All (λ pass. IsPassOf l.gate pass) (into_iter_items l.other-iterator);
}
