-- The law, from what holds after every list of events.
use Rattle.event_laws.proofs.RisingKeys.{snapshot_keys_rise}
use Rattle.event_laws.proofs.laws_of_refreshes.snapshot_keys_rise.Goals as goal

pub returns : goal.returns
returns c = snapshot_keys_rise
