-- The law, from what holds after every list of events.
use Rattle.event_laws.proofs.SnapshotLaws.{other_keys_are_the_masters}
use Rattle.event_laws.proofs.laws_of_refreshes.other_keys_are_the_masters.Goals as goal

pub returns : goal.returns
returns c = other_keys_are_the_masters
