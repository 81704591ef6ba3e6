-- The laws of names.
use Rattle.event_laws.proofs.Names.{names_stay_apart, each_is_found_by_its_name}
use Rattle.event_laws.proofs.laws_of_joins.names_stay_apart.Goals as goal

pub returns-clause-apart : goal.returns-clause-apart
returns-clause-apart c = names_stay_apart

pub returns-clause-found : goal.returns-clause-found
returns-clause-found c = each_is_found_by_its_name
