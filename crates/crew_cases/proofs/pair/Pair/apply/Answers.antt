-- A pass keeps the run, also one that ends for want of memory.
use Rattle.std.proofs.Common.{take}
use Rattle.site_state.specs.State.{arrivals}
use Rattle.crew_cases.proofs.pair.Pair.apply.Goals.{in-Ok, in-Err}
use Rattle.crew_cases.proofs.pair.Pair.apply.Goals as goal

pub invariant_of-self : goal.invariant_of-self
invariant_of-self c =
    let origin = c.args.origin.now in
    let arrived = arrivals origin c.self.inside.to in
    elim c.match-apply_pass.branch [
      | in-Ok w ↦ rw w.in-Ok.ensures.ok (c.two_sites_run.ensures.apply c.self.inside.from c.self.inside.to origin arrived c.self.invariant)
      | in-Err w ↦ rw w.in-Err.ensures.err.1 (c.two_sites_run.ensures.apply c.self.inside.from c.self.inside.to origin (take w.in-Err.ensures.err.0 arrived) c.self.invariant)
    ]
