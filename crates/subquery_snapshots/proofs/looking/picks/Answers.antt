use Rattle.subquery_snapshots.proofs.looking.picks.Goals as goal

pub has_parent-requires-clause-parent : goal.has_parent-requires-clause-parent
has_parent-requires-clause-parent g c = rw c.in-Parent.is at c.requires.rule
