use Rattle.std.proofs.Common.{ap, length, arith}
use Rattle.ordered_keys.specs.Trees.{entries}
use Rattle.ordered_keys.proofs.Bounds.{none_above}
use Rattle.ordered_keys.proofs.list.TreeList.clear.Goals as goal

pub returns-clause-items : goal.returns-clause-items
returns-clause-items g c = rw (c.purge.ensures.items, ← c.self.view_is) (none_above g.E.Noted.moment c.sum-last.result.last c.sum-last.result.last (entries c.self.inside.root) c.sum-last.ensures.last (omega arith))

pub returns-clause-spare : goal.returns-clause-spare
returns-clause-spare g c = omega (arith, c.purge.ensures.spare, ap length (returns-clause-items g c))
