-- The law of snapshots without parents.
use Rattle.event_laws.proofs.QueryTables.{queries_are_rules}
use Rattle.event_laws.proofs.laws.queries_are_rules.Goals as goal

pub returns : goal.returns
returns c = queries_are_rules
