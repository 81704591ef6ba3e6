-- The laws of joins.
use Rattle.event_laws.proofs.Joined.{joins_copy, other_joins_change_nothing}
use Rattle.event_laws.proofs.laws_of_joins.joins_copy.Goals as goal

pub returns-clause-copied : goal.returns-clause-copied
returns-clause-copied c = joins_copy

pub returns-clause-refused : goal.returns-clause-refused
returns-clause-refused c = other_joins_change_nothing
