-- The law of a refresh by itself.
use Rattle.event_laws.proofs.Refreshing.{refreshed_tables_are_the_rules}
use Rattle.event_laws.proofs.laws_of_refreshes.refreshed_tables_are_the_rules.Goals as goal

pub returns : goal.returns
returns c = refreshed_tables_are_the_rules
