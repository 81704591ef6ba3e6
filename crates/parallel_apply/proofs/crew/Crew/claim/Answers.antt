use Rattle.std.proofs.Common.{refl}
use Rattle.parallel_apply.proofs.Crews.{with_quiet}
use Rattle.parallel_apply.proofs.crew.Crew.claim.Goals as goal

pub invariant_of-self : goal.invariant_of-self
invariant_of-self g c = (with_quiet _ _ _ _ c.self.invariant.0 _ _ c.pass.ensures refl, c.self.invariant.1)
