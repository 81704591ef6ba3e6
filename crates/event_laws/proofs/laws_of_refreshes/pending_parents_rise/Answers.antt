-- The law, from what holds after every list of events.
use Rattle.event_laws.proofs.SnapshotLaws.{pending_parents_rise}
use Rattle.event_laws.proofs.laws_of_refreshes.pending_parents_rise.Goals as goal

pub returns : goal.returns
returns c = pending_parents_rise
