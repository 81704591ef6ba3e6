-- The law, from what holds after every list of events.
use Rattle.event_laws.proofs.SnapshotLaws.{fast_is_complete}
use Rattle.event_laws.proofs.laws_of_refreshes.fast_is_complete.Goals as goal

pub returns : goal.returns
returns c = fast_is_complete
