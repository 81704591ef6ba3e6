-- The law of waiting.
use Rattle.event_laws.proofs.Waiting.{nothing_waits_for_ever}
use Rattle.event_laws.proofs.laws.nothing_waits_for_ever.Goals as goal

pub returns : goal.returns
returns c = nothing_waits_for_ever
