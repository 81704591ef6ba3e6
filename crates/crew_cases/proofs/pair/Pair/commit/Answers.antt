-- A block keeps the run, and a refused one leaves it.
use Rattle.crew_cases.proofs.pair.Pair.commit.Goals.{in-Ok, in-Err}
use Rattle.crew_cases.proofs.pair.Pair.commit.Goals as goal

pub invariant_of-self : goal.invariant_of-self
invariant_of-self c = elim c.match-commit.branch [
  | in-Ok w ↦ rw w.in-Ok.ensures.ok (c.two_sites_run.ensures.commit c.self.inside.from c.self.inside.to c.args.block.now c.self.invariant)
  | in-Err w ↦ rw w.in-Err.ensures.kept c.self.invariant
]
