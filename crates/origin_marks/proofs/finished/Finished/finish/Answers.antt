use Rattle.origin_marks.proofs.Flips.{edges_flipped, between_flipped}
use Rattle.origin_marks.proofs.finished.Finished.finish.Goals as goal

pub invariant_of-self : goal.invariant_of-self
invariant_of-self c = rw c.flip_beside.ensures.edges (edges_flipped _ _ _ c.self.invariant)

pub returns-clause-finished : goal.returns-clause-finished
returns-clause-finished c = λ p. rw (c.flip_beside.ensures.edges, ← c.self.view_is) (between_flipped _ _ c.requires.from_one (rw (← c.self.view_is) at c.requires.unfinished) p)
