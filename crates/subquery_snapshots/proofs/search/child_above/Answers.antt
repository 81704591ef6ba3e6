use Rattle.subquery_snapshots.proofs.search.child_above.Goals as goal

pub returns : goal.returns
returns g c = rw c.place_above-first.ensures at c.child_from.ensures
