-- The law, from what holds after every list of events.
use Rattle.event_laws.proofs.SnapshotLaws.{refreshed_is_the_rule}
use Rattle.event_laws.proofs.laws_of_refreshes.refreshed_is_the_rule.Goals as goal

pub returns : goal.returns
returns c = refreshed_is_the_rule
