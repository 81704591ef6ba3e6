-- The law, from what holds after every list of events.
use Rattle.event_laws.proofs.LogLaws.{noted_are_above_purged}
use Rattle.event_laws.proofs.laws_of_refreshes.noted_are_above_purged.Goals as goal

pub returns : goal.returns
returns c = noted_are_above_purged
