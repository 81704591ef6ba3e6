-- The law of purges.
use Rattle.event_laws.proofs.PassLaws.{purges_take_what_is_acknowledged}
use Rattle.event_laws.proofs.laws.purges_take_what_is_acknowledged.Goals as goal

pub returns : goal.returns
returns c = purges_take_what_is_acknowledged
