-- An index in which nothing is noted.
use Rattle.dependency_index.proofs.FoundStreams.{IsNoted-new}
use Rattle.dependency_index.proofs.NotedColumns.{IsIndex-new, unnoted-new, sites-new}
use Rattle.dependency_index.proofs.index.Index.make.Goals as goal

pub invariant_of-result : goal.invariant_of-result
invariant_of-result c = rw (c.new.ensures.empty, c.in_ok-streams.ensures) (IsIndex-new _ c.args.destinations.now)

pub returns-clause-noted : goal.returns-clause-noted
returns-clause-noted c = rw (c.new.ensures.empty, c.in_ok-streams.ensures) (λ site. IsNoted-new site _ (unnoted-new c.args.destinations.now))

pub returns-clause-destinations : goal.returns-clause-destinations
returns-clause-destinations c = rw (c.new.ensures.empty, c.in_ok-streams.ensures) (sites-new c.args.destinations.now)
